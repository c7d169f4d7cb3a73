-- The levels of entering, and what follows the body of an instance.
use Rattle.std.proofs.Common.{◌≡◌, ℕ, zero, suc, ◌-◌, ◌<◌, List, [], ◌∷◌, ◌++◌, length, Option, Some, None, Result, Ok, Err, refl, sym, ap, ◌∙◌, subst, arith}
use Rattle.fix_core.specs.Passes.{◌>>=◌}
use Rattle.ams_tree.specs.declared.design.Architecture.{Architecture}
use Rattle.ams_tree.specs.declared.design.DesignUnit.{DesignUnit}
use Rattle.ams_tree.specs.declared.design.Entity.{Entity}
use Rattle.name_scope.specs.declared.scope.Scope.{Scope}
use Rattle.unit_meaning.specs.declared.request.Request.{Request}
use Rattle.unit_meaning.specs.declared.site.Limit.TheVariants.{Instances}
use Rattle.unit_meaning.specs.declared.site.Refusal.{Refusal}
use Rattle.unit_meaning.specs.declared.site.Refusal.TheVariants.{TooMany}
use Rattle.unit_meaning.specs.declared.site.Site.{Site}
use Rattle.unit_meaning.specs.Units.{start_of}
use Rattle.unit_meaning.specs.Walk.{Entering, Around, Entry, enter, entered, statements_walked, interface_entered}
use Rattle.walk_answers.specs.Answers.{Walks, Opens, around_of}
use Rattle.walk_answers.specs.declared.body.Body.{Body}
use Rattle.walk_answers.specs.declared.stop.Stop.{Stop}
use Rattle.walk_answers.specs.declared.stop.Stop.TheVariants.{Refused, OutOfMemory}
use Rattle.instance_body.specs.Bodies.{with_around, opened_interface}

-- ---- levels

module _ (texts : List (List ℕ)) (units : List DesignUnit) (above : List ℕ) (r : Request) (s : Site) where
  pub at_zero : (depth : ℕ) → depth ≡ 0 → enter texts units depth above r s ≡ Err (TooMany Instances)
  unfolding enter
  at_zero zero e = refl
  at_zero (suc depth) e = absurd (omega arith)

  pub next : (depth : ℕ) → 0 < depth → enter texts units depth above r s ≡ entered (enter texts units (depth - 1) (above ++ r.entity ∷ [])) texts units above r s
  unfolding enter
  next zero h = absurd (omega arith)
  next (suc depth) h =
      let same : depth ≡ suc depth - 1 = omega arith in
      ap (λ d. entered (enter texts units d (above ++ r.entity ∷ [])) texts units above r s) same

-- ---- bodies

module _ (inner : Entering) (texts : List (List ℕ)) (units : List DesignUnit) (r : Request) (e : Entity) (a : Architecture) where
  go : Around × Site → Result Site Refusal
  go p = statements_walked inner units p.0 a.statements p.1

  behind_around : (at : Around) (m : Result Site Refusal) → (m >>= with_around at >>= go) ≡ (m >>= statements_walked inner units at a.statements)
  unfolding go
  behind_around at (Ok s) = refl
  behind_around at (Err x) = refl

  parts : (start : Scope) (o : Option Entry) (number : ℕ) (s : Site) → start ≡ start_of texts → number ≡ length s.objects.instances
      → (opened_interface texts start units r e a o number s >>= go) ≡ interface_entered inner texts units r e a o s
  parts start None number s g h = refl
  parts start (Some entry) number s g h =
      ap (λ x. opened_interface texts x units r e a (Some entry) number s >>= go) g
      ∙ (ap (λ k. opened_interface texts (start_of texts) units r e a (Some entry) k s >>= go) h ∙ behind_around _ _)

  module _ (start : Scope) (o : Option Entry) (number : ℕ) (s : Site) (g : start ≡ start_of texts) (h : number ≡ length s.objects.instances) where
    pub body_walked : (body : Body) (now new : Site) (res : Result (Unit {0}) Stop) → Opens texts r.path (opened_interface texts start units r e a o number s) (Ok body) now
        → Walks (statements_walked inner units (around_of texts r.path body) a.statements now) res new → Walks (interface_entered inner texts units r e a o s) res new
    unfolding go
    body_walked body now new res opened walked =
        subst (λ m. Walks m res new) (sym (ap (λ m. m >>= go) opened) ∙ parts start o number s g h) walked

    pub body_failed : (stop : Stop) (now : Site) → Opens texts r.path (opened_interface texts start units r e a o number s) (Err stop) now → Walks {A = Unit {0}} (interface_entered inner texts units r e a o s) (Err stop) now
    body_failed (Refused x) now opened = sym (parts start o number s g h) ∙ ap (λ m. m >>= go) opened
    body_failed OutOfMemory now opened = tt
