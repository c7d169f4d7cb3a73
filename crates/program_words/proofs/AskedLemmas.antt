-- What is asked for, from what each option is given.
use Rattle.std.proofs.Common.{◌≡◌, ℕ, List, None, codes, refl, sym, ap, subst, ◌∙◌, map, []}
use Rattle.std.specs.Prelude.{unwrap_or, option_and_then}
use Rattle.std.specs.Prelude.{Result, IfOk}
use Rattle.std.proofs.lemmas.Result.{IfOk-weaker}
use Rattle.std.specs.declared.alloc.AllocError.{AllocError}
use Rattle.std.specs.Char.{to_ascii_lowercase}
use Rattle.step_data.specs.Options.{IsAllowed}
use Rattle.word_rules.specs.declared.mode.Mode.{Mode}
use Rattle.word_rules.specs.declared.mode.Mode.TheVariants as mode
use Rattle.word_rules.specs.Words.{Text, Request, value_of, mode_named, number_of, refusal, mode_of, top_of, schedule_of, request_of, IsInRange}
use Rattle.word_rules.proofs.RangeLemmas.{in_range}
use Rattle.program_words.specs.declared.settings.Settings.{Settings}
use Rattle.program_words.specs.Asked.{asked, Values, number_from, mode_from, top_from, options_from, schedule_from, request_from}

number_same : (f g : Values) (default : ℕ) (name : Text) → f name ≡ g name → number_from f default name ≡ number_from g default name
number_same f g default name h = ap (λ o. unwrap_or (option_and_then number_of o) default) h

mode_same : (f g : Values) → f (codes "mode") ≡ g (codes "mode") → mode_from f ≡ mode_from g
mode_same f g h = ap (λ o. unwrap_or (option_and_then mode_named o) mode.Run) h

top_at : (m : Mode) (f g : Values) → f (codes "top") ≡ g (codes "top") → top_from m f ≡ top_from m g
top_at mode.Run f g h = ap (λ o. map to_ascii_lowercase (unwrap_or o [])) h
top_at mode.Lockstep f g h = ap (λ o. map to_ascii_lowercase (unwrap_or o [])) h
top_at mode.Replay f g h = ap (λ o. map to_ascii_lowercase (unwrap_or o [])) h
top_at mode.Make f g h = refl

top_same : (f g : Values) → f (codes "mode") ≡ g (codes "mode") → f (codes "top") ≡ g (codes "top") → top_from (mode_from f) f ≡ top_from (mode_from g) g
top_same f g m h = ap (λ n. top_from n f) (mode_same f g m) ∙ top_at (mode_from g) f g h

top_is : (m : Mode) (words : List Text) → top_from m (λ name. value_of name words) ≡ top_of m words
top_is mode.Run words = refl
top_is mode.Lockstep words = refl
top_is mode.Replay words = refl
top_is mode.Make words = refl

schedule_same : (f g : Values) → f (codes "schedule") ≡ g (codes "schedule") → schedule_from f ≡ schedule_from g
schedule_same f g h = ap (λ o. unwrap_or o []) h

abbrev request_by : Mode → Text → ℕ → ℕ → ℕ → ℕ → ℕ → ℕ → ℕ → ℕ → ℕ → Text → Request
request_by m top size stop ahead h0 hmin hmax tol ltol xres schedule =
    record { mode = m; top = top; size = size; stop = stop; ahead = ahead; h0 = h0; hmin = hmin; hmax = hmax; tol = tol; ltol = ltol; xres = xres; schedule = schedule }

pub request_same : (f : Values) (words : List Text) → ((name : Text) → f name ≡ value_of name words) → request_from f ≡ request_of words
request_same f words h =
    let g = λ (name : Text). value_of name words in
    let m : mode_from f ≡ mode_from g = mode_same f g (h (codes "mode")) in
    let top : top_from (mode_from f) f ≡ top_of (mode_of words) words = top_same f g (h (codes "mode")) (h (codes "top")) ∙ top_is (mode_of words) words in
    let size : number_from f 0 (codes "size") ≡ number_from g 0 (codes "size") = number_same f g 0 (codes "size") (h (codes "size")) in
    let stop : number_from f 0 (codes "stop") ≡ number_from g 0 (codes "stop") = number_same f g 0 (codes "stop") (h (codes "stop")) in
    let ahead : number_from f 64 (codes "ahead") ≡ number_from g 64 (codes "ahead") = number_same f g 64 (codes "ahead") (h (codes "ahead")) in
    let h0 : number_from f 1000 (codes "h0") ≡ number_from g 1000 (codes "h0") = number_same f g 1000 (codes "h0") (h (codes "h0")) in
    let hmin : number_from f 1 (codes "hmin") ≡ number_from g 1 (codes "hmin") = number_same f g 1 (codes "hmin") (h (codes "hmin")) in
    let hmax : number_from f 1000000 (codes "hmax") ≡ number_from g 1000000 (codes "hmax") = number_same f g 1000000 (codes "hmax") (h (codes "hmax")) in
    let tol : number_from f 1000000 (codes "tol") ≡ number_from g 1000000 (codes "tol") = number_same f g 1000000 (codes "tol") (h (codes "tol")) in
    let ltol : number_from f 1000000000 (codes "ltol") ≡ number_from g 1000000000 (codes "ltol") = number_same f g 1000000000 (codes "ltol") (h (codes "ltol")) in
    let xres : number_from f 1 (codes "xres") ≡ number_from g 1 (codes "xres") = number_same f g 1 (codes "xres") (h (codes "xres")) in
    let schedule : schedule_from f ≡ schedule_of words = schedule_same f g (h (codes "schedule")) in
    all_same _ _ _ _ _ _ _ _ _ _ _ _ _ _ _ _ _ _ _ _ _ _ _ _ m top size stop ahead h0 hmin hmax tol ltol xres schedule
  where
    all_same : (m m2 : Mode) (top top2 : Text) (size size2 stop stop2 ahead ahead2 h0 h02 hmin hmin2 hmax hmax2 tol tol2 ltol ltol2 xres xres2 : ℕ) (schedule schedule2 : Text) → m ≡ m2 → top ≡ top2 → size ≡ size2 → stop ≡ stop2 → ahead ≡ ahead2 → h0 ≡ h02 →
        hmin ≡ hmin2 → hmax ≡ hmax2 → tol ≡ tol2 → ltol ≡ ltol2 → xres ≡ xres2 → schedule ≡ schedule2 →
        request_by m top size stop ahead h0 hmin hmax tol ltol xres schedule ≡ request_by m2 top2 size2 stop2 ahead2 h02 hmin2 hmax2 tol2 ltol2 xres2 schedule2
    all_same m m2 top top2 size size2 stop stop2 ahead ahead2 h0 h02 hmin hmin2 hmax hmax2 tol tol2 ltol ltol2 xres xres2 schedule schedule2 e1 e2 e3 e4 e5 e6 e7 e8 e9 e10 e11 e12 = cc

pub in_range_from : (f : Values) (words : List Text) → ((name : Text) → f name ≡ value_of name words) → refusal words ≡ None → IsInRange (request_from f)
in_range_from f words h r = subst IsInRange (sym (request_same f words h)) (in_range words r)

pub allowed_from : (f : Values) → IsInRange (request_from f) → IsAllowed (options_from f)
allowed_from f r = record {
  stop_least = r.stop_least;
  stop_most = r.stop_most;
  ahead_most = r.ahead_most;
  hmin_least = r.hmin_least;
  h0_least = r.h0_least;
  h0_most = r.h0_most;
  hmax_most = r.hmax_most;
  tol_least = r.tol_least;
  tol_most = r.tol_most;
  ltol_least = r.ltol_least;
  ltol_most = r.ltol_most;
  xres_least = r.xres_least;
  xres_most = r.xres_most;
}

pub asked_still : (r : Result Settings AllocError) (f : Values) (words : List Text) → ((name : Text) → f name ≡ value_of name words) → IfOk r (λ s. asked s ≡ request_from f) → IfOk r (λ s. asked s ≡ request_of words)
asked_still r f words h k = IfOk-weaker r _ _ (λ s e. e ∙ request_same f words h) k

pub ruleset asked_rules = (asked_still, in_range_from)
