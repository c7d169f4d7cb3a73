-- A place in the text is that of a stack.
use Rattle.std.proofs.Common.{◌≡◌, refl, ap, sym, ◌∙◌, subst, ℕ, List, [], ◌∷◌, ◌++◌, Option, None}
use Rattle.flat_expr.specs.declared.statement.Statement.{Statement}
use Rattle.flat_design.specs.declared.objects.Process.{Process}
use Rattle.cycle_meaning.specs.Task.{Layer}
use Rattle.cycle_meaning.specs.World.{Context, Local}
use Rattle.process_laws.specs.Resumed.{Surroundings, outermost, inside, AreOf}
use Rattle.process_place.specs.ProcessPlace.{at, IsIn}
use Rattle.process_ready.specs.Ready.{GoesReady}
use Rattle.process_stack.specs.declared.stack.Frame.{Frame}
use Rattle.process_stack.specs.Stacks.{Stacked, layer_or_null, within, round_of, place_of}
use Rattle.process_stack.proofs.Rounds.{round_push}
use Rattle.proc_exec.specs.Running.{StandsReady}

frames_of : Surroundings → List Frame
frames_of outermost = []
frames_of (inside c k b layer last) = frames_of c ++ record { statement = k; branch = b; last = last } ∷ []

round_is : (top : List Statement) (c : Surroundings) → AreOf top c → round_of top (frames_of c) ≡ c
unfolding frames_of
round_is top outermost h = refl
round_is top (inside c k b layer last) h =
    let f : Frame = record { statement = k; branch = b; last = last } in
    round_push top outermost (frames_of c) f
    ∙ (ap (λ z. within top z f) (round_is top c h.0) ∙ ap (λ (o : Option Layer). inside c k b (layer_or_null o) last) h.1)

pub stack_at : Surroundings → ℕ → Stacked
stack_at c k = record { frames = frames_of c; next = k; first = None }

pub place_is : (top : List Statement) (c : Surroundings) (k : ℕ) → AreOf top c → place_of top (stack_at c k) ≡ at c k
unfolding stack_at
place_is top c k h = ap (λ z. at z k) (round_is top c h)

pub stands_at : (here : Context) (p : Process) (l : Local) (c : Surroundings) (k : ℕ) → AreOf p.statements c → GoesReady here p l (at c k) → StandsReady here l p.statements (stack_at c k)
unfolding stack_at
stands_at here p l c k of_text ready =
    record {
      process = p;
      text_is = refl;
      of_text = subst (AreOf p.statements) (sym (round_is p.statements c of_text)) of_text;
      is_in = subst (IsIn p.statements) (sym (ap (λ z. at z k) (round_is p.statements c of_text))) of_text;
      ready = subst (GoesReady here p l) (sym (ap (λ z. at z k) (round_is p.statements c of_text))) ready;
    }
