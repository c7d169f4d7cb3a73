-- The statements of an instance, in the order of the walk.
use Rattle.std.proofs.Common.{◌≡◌, ◌≤◌, ℕ, Bool, List, [], ◌∷◌, ◌++◌, length, Option, Some, None, refl, sym, ap, ◌∙◌, subst, arith}
use Rattle.std.specs.List.{All, fold}
use Rattle.std.proofs.lemmas.List.Elements.{All-nil, All-cons, All-head, All-tail}
use Rattle.ams_tree.specs.declared.expression.Name.{Name}
use Rattle.ams_tree.specs.declared.concurrent.Concurrent.{Concurrent}
use Rattle.ams_tree.specs.declared.concurrent.ConcurrentStatement.{ConcurrentStatement}
use Rattle.ams_tree.specs.declared.concurrent.ConcurrentStatement.TheVariants as conc
use Rattle.ams_tree.specs.declared.concurrent.Instance.{Instance as Written}
use Rattle.ams_tree.specs.declared.design.DesignUnit.{DesignUnit}
use Rattle.flat_design.specs.Limits.{unknown_limit, threshold_limit}
use Rattle.flat_design.specs.declared.objects.Objects.{Objects}
use Rattle.flat_design.specs.declared.objects.Threshold.{Threshold}
use Rattle.name_scope.specs.declared.scope.Scope.{Scope}
use Rattle.name_scope.specs.declared.thing.Thing.{Thing}
use Rattle.elab_meaning.specs.declared.fault.Fault.{Fault}
use Rattle.elab_meaning.specs.declared.fault.Notes.{Notes}
use Rattle.unit_meaning.specs.declared.draft.Made.{Made}
use Rattle.unit_meaning.specs.declared.request.Request.{Request}
use Rattle.unit_meaning.specs.declared.site.Site.{Site}
use Rattle.unit_meaning.specs.Settings.{Setting}
use Rattle.unit_meaning.specs.Associations.{instance_maps}
use Rattle.unit_meaning.specs.Concurrent.{concurrent}
use Rattle.unit_meaning.specs.Units.{start_of, statement_notes, judged_statement}
use Rattle.unit_meaning.specs.Walk.{Around, request_of, numbering, with_statement}
use Rattle.design_rules.specs.Types.{equation_scope}
use Rattle.reading_laws.specs.Growing.{Extends, Grows}
use Rattle.note_laws.specs.Noting.{NamesAreNotable, NotesAlike}
use Rattle.architecture_note_laws.proofs.Walked.{architectures_note_alike}
use Rattle.process_note_laws.proofs.Processes.{concurrent_statements_note_alike}
use Rattle.scope_laws.specs.Holds.{HasNoFaults, ScopeHolds}
use Rattle.declaration_laws.specs.Books.{ObjectsHold}
use Rattle.interface_laws.specs.Requests.{RequestHolds}
use Rattle.interface_laws.proofs.Whole.{interfaces_hold}
use Rattle.written_laws.specs.Written.{IsWritten}
use Rattle.made_laws.specs.Made.{ArchitectureStands}
use Rattle.object_laws.proofs.Adding.{extends_same, extends_on}
use Rattle.walk_laws.specs.Steps.{IsNoInstance}
use Rattle.site_laws.specs.Sites.{IsFront}
use Rattle.site_laws.proofs.Fronts.{same_front, front_on}
use Rattle.site_laws.proofs.Statements.{made_front}
use Rattle.again_process_laws.proofs.Whole.{statements_break_alike}
use Rattle.site_invariant_laws.specs.Sites.{HasDomain, NotedHolds, SiteHolds, MadeIn, IsMadeIn}
use Rattle.site_invariant_laws.specs.Premises.{InnerKeeps, StatementsMake, CasesStand}
use Rattle.site_invariant_laws.proofs.Lists.{none_first, none_last, no_shorter}
use Rattle.site_invariant_laws.proofs.Grown.{Grown, grown_same, grown_on, NotedFront, noted_before, grown_behind, objects_behind, among_behind, dots_behind, thresholds_behind, all_later}
use Rattle.site_invariant_laws.proofs.Scopes.{names_notable}
use Rattle.site_invariant_laws.proofs.Numbered.{IsCounted, few_dots, counted_behind, noted_holds, statement_holds}

-- ---- faults of a list of statements

module _ (w : Setting) (start : Scope) (units : List DesignUnit) (scope : Scope) where
  abbrev judged : Notes → Concurrent → Notes
  judged = judged_statement w start units scope

  -- where the notes behind have no faults, those before have none
  one_before : (c : Concurrent) (n : Notes) → HasNoFaults (judged n c) → HasNoFaults n
  one_before c n h = let k = statements_break_alike w start units scope c.label c.statement n n in none_first Fault n.faults k.more (sym k.first ∙ h)

  pub faults_before : (all : List Concurrent) (n : Notes) → HasNoFaults (fold judged n all) → HasNoFaults n
  faults_before [] n h = h
  faults_before (c ∷ more) n h = one_before c n (faults_before more (judged n c) h)

  -- a second reading has none where the first one has none
  pub none_again : (c : Concurrent) (n m : Notes) → HasNoFaults (judged n c) → HasNoFaults m → HasNoFaults (judged m c)
  none_again c n m h g =
      let k = statements_break_alike w start units scope c.label c.statement n m in
      let none : k.more ≡ [] = none_last Fault n.faults k.more (sym k.first ∙ h) in
      k.second ∙ (ap (λ (l : List Fault). m.faults ++ l) none ∙ ap (λ (l : List Fault). l ++ []) g)

  -- notes of a statement that is no instance
  pub judged_is : (label : Option Name) (x : ConcurrentStatement) (n : Notes) → IsNoInstance x → statement_notes w start units scope label x n ≡ (concurrent w scope label x n).0
  judged_is label (conc.Process p) n plain = refl
  judged_is label (conc.Assign x d all last when) n plain = refl
  judged_is label (conc.Assert a) n plain = refl
  judged_is label (conc.Break p all names when) n plain = refl
  judged_is label (conc.Equation q) n plain = refl
  judged_is label (conc.If p all last) n plain = refl
  judged_is label (conc.Case p x all) n plain = refl
  judged_is label (conc.Instance i) n plain = absurd plain

-- ---- what is known of an instance and of its site

module _ (final : Objects) (units : List DesignUnit) (Q : Request → Type 0) where
  -- objects are right, DOMAIN_TYPE is there, and what has numbers is counted
  pub record Starts (s : Site) : Type 0 where
    pub objects : ObjectsHold final s.objects
    pub domain : HasDomain s.objects
    pub counted : NotedHolds final s

  -- the statements that are still to come
  pub record Reads (at : Around) (all : List Concurrent) (s : Site) : Type 0 where
    pub scope : ScopeHolds (equation_scope final) [] [] at.scope
    pub requests : All (λ (c : Concurrent). InnerKeeps Q units at c.statement) all
    pub written : All (λ (c : Concurrent). IsWritten c.statement) all
    -- the notes from which they were counted, and those behind
    pub before : Notes
    pub fine : HasNoFaults (fold (judged_statement at.setting (start_of at.setting.texts) units at.scope) before all)
    pub dots : Extends ℕ (fold (judged_statement at.setting (start_of at.setting.texts) units at.scope) before all).dots s.dots
    pub thresholds : Extends Threshold (fold (judged_statement at.setting (start_of at.setting.texts) units at.scope) before all).thresholds s.thresholds
    pub dot_limit : length (fold (judged_statement at.setting (start_of at.setting.texts) units at.scope) before all).dots ≤ unknown_limit
    pub threshold_limit_kept : length (fold (judged_statement at.setting (start_of at.setting.texts) units at.scope) before all).thresholds ≤ threshold_limit

  -- what processes and cases ask of an instance
  pub record Stands (at : Around) : Type 0 where
    pub Also : Thing → Bool
    pub architecture : ArchitectureStands final at.setting Also at.scope
    pub cases : CasesStand final at.setting at.scope

  -- an instance with all inside it
  pub record EnterHolds (s t : Site) : Type 0 where
    pub starts : Starts t
    pub grown : Grown s t
    pub site : NotedFront t.objects final → SiteHolds final s → SiteHolds final t

  pub record Enters (r : Request) (s t : Site) : Type 0 where
    pub front : IsFront s.objects t.objects
    pub holds : Starts s → RequestHolds final r → Q r → IsFront t.objects final → EnterHolds s t

  pub record RunHolds (at : Around) (all : List Concurrent) (s t : Site) : Type 0 where
    pub starts : Starts t
    pub grown : Grown s t
    pub made : All (IsMadeIn t.objects at.setting at.scope) all
    pub site : NotedFront t.objects final → Stands at → SiteHolds final s → SiteHolds final t

  pub record Runs (at : Around) (all : List Concurrent) (s t : Site) : Type 0 where
    pub front : IsFront s.objects t.objects
    pub holds : Starts s → Reads at all s → IsFront t.objects final → RunHolds at all s t

  -- ---- steps

  pub nothing_more : (at : Around) (s : Site) → Runs at [] s s
  nothing_more at s =
      record {
        front = same_front s.objects;
        holds = λ st rd f. record { starts = st; grown = grown_same s; made = All-nil (IsMadeIn s.objects at.setting at.scope); site = λ d w h. h };
      }

  module _ (make : StatementsMake final) (at : Around) (c : Concurrent) (more : List Concurrent) where
    abbrev reading : Notes → Concurrent → Notes
    reading = judged_statement at.setting (start_of at.setting.texts) units at.scope

    abbrev Kept : Objects → Concurrent → Type 0
    Kept o = IsMadeIn o at.setting at.scope

    reads_more : (s u : Site) → Reads at (c ∷ more) s → Grown s u → Reads at more u
    reads_more s u rd g =
        let last = fold reading (reading rd.before c) more in
        record {
          scope = rd.scope;
          requests = All-tail (λ (x : Concurrent). InnerKeeps Q units at x.statement) c more rd.requests;
          written = All-tail (λ (x : Concurrent). IsWritten x.statement) c more rd.written;
          before = reading rd.before c;
          fine = rd.fine;
          dots = extends_on ℕ last.dots s.dots u.dots rd.dots g.counted_dots;
          thresholds = extends_on Threshold last.thresholds s.thresholds u.thresholds rd.thresholds g.counted_thresholds;
          dot_limit = rd.dot_limit;
          threshold_limit_kept = rd.threshold_limit_kept;
        }

    -- the statement broke no rule when it was counted
    counted_fine : (s : Site) → (rd : Reads at (c ∷ more) s) → HasNoFaults (reading rd.before c)
    counted_fine s rd = faults_before at.setting (start_of at.setting.texts) units at.scope more (reading rd.before c) rd.fine

    -- nor when it is numbered
    numbered_fine : (s : Site) → Reads at (c ∷ more) s → HasNoFaults (reading (numbering s) c)
    numbered_fine s rd = none_again at.setting (start_of at.setting.texts) units at.scope c rd.before (numbering s) (counted_fine s rd) refl

    no_statement : (i : Written) → c.statement ≡ conc.Instance i → (o : Objects) → Kept o c
    no_statement i k o plain = absurd (subst IsNoInstance k plain)

    -- ---- an instance

    module _ (x : Name) (i : Written) (k : c.statement ≡ conc.Instance i) where
      abbrev request : Site → Request
      request s = request_of at.setting units at.scope at.path at.number x i s

      request_keeps : (s : Site) → Reads at (c ∷ more) s → Q (request s)
      request_keeps s rd =
          let here : InnerKeeps Q units at (conc.Instance i) =
          subst (InnerKeeps Q units at) k (All-head (λ (y : Concurrent). InnerKeeps Q units at y.statement) c more rd.requests) in
          here x s

      request_holds : (s : Site) → Reads at (c ∷ more) s → RequestHolds final (request s)
      request_holds s rd =
          interfaces_hold.inner final at.setting units at.scope at.path at.number x i s rd.scope
          (subst (λ (y : ConcurrentStatement). HasNoFaults (statement_notes at.setting (start_of at.setting.texts) units at.scope c.label y (numbering s))) k (numbered_fine s rd))

      pub behind_instance : (s u t : Site) → Enters (request s) s u → Runs at more u t → Runs at (c ∷ more) s t
      behind_instance s u t p q =
          record {
            front = front_on s.objects u.objects t.objects p.front q.front;
            holds = λ st rd f.
                let one : EnterHolds s u = p.holds st (request_holds s rd) (request_keeps s rd) (front_on u.objects t.objects final q.front f) in
                let rest : RunHolds at more u t = q.holds one.starts (reads_more s u rd one.grown) f in
                record {
                  starts = rest.starts;
                  grown = grown_on s u t one.grown rest.grown;
                  made = All-cons (Kept t.objects) c more (no_statement i k t.objects) rest.made;
                  site = λ d w h. rest.site d w (one.site (noted_before final u t rest.grown d) h);
                };
          }

    pub behind_none : (i : Written) → c.statement ≡ conc.Instance i → (s t : Site) → Runs at more s t → Runs at (c ∷ more) s t
    behind_none i k s t q =
        record {
          front = q.front;
          holds = λ st rd f.
              let rest : RunHolds at more s t = q.holds st (reads_more s s rd (grown_same s)) f in
              record {
                starts = rest.starts;
                grown = rest.grown;
                made = All-cons (Kept t.objects) c more (no_statement i k t.objects) rest.made;
                site = λ d w h. rest.site d w h;
              };
        }

    -- ---- another statement

    module _ (plain : IsNoInstance c.statement) (s : Site) where
      abbrev found : Notes × Made
      found = concurrent at.setting at.scope c.label c.statement (numbering s)

      abbrev behind : Site
      behind = with_statement found s

      read_is : (n : Notes) → reading n c ≡ (concurrent at.setting at.scope c.label c.statement n).0
      read_is n = judged_is at.setting (start_of at.setting.texts) units at.scope c.label c.statement n plain

      module _ (st : Starts s) (rd : Reads at (c ∷ more) s) where
        notable : NamesAreNotable final at.scope
        notable = names_notable final at.scope rd.scope

        last : Notes
        last = fold reading (reading rd.before c) more

        -- the two readings
        alike : NotesAlike final (numbering s) rd.before found.0 (reading rd.before c)
        alike =
            subst (λ (m : Notes). NotesAlike final (numbering s) rd.before found.0 m) (sym (read_is rd.before))
            (concurrent_statements_note_alike final at.setting at.scope c.label c.statement (numbering s) rd.before notable)

        -- what is counted behind the others
        rest_grows : Grows (reading rd.before c) (fold reading (reading rd.before c) more)
        rest_grows =
            (architectures_note_alike final at.setting (start_of at.setting.texts) units at.scope more (reading rd.before c) (reading rd.before c) notable).grows

        fine : HasNoFaults found.0
        fine = subst HasNoFaults (read_is (numbering s)) (numbered_fine s rd)

        grown : Grown s behind
        grown = grown_behind found.0 s found.1 alike.grows.dots alike.grows.thresholds

        counted : IsCounted found.0 s
        counted =
            let dots : length (reading rd.before c).dots ≤ unknown_limit = before_limit (no_shorter ℕ _ _ rest_grows.dots) rd.dot_limit in
            let thresholds : length (reading rd.before c).thresholds ≤ threshold_limit = before_limit (no_shorter Threshold _ _ rest_grows.thresholds) rd.threshold_limit_kept in
            counted_behind final s rd.before found.0 (reading rd.before c) alike
            (extends_on ℕ _ _ s.dots rest_grows.dots rd.dots) (extends_on Threshold _ _ s.thresholds rest_grows.thresholds rd.thresholds)
            dots thresholds st.counted.dots st.counted.thresholds
          where
            before_limit : {a b k : ℕ} → a ≤ b → b ≤ k → a ≤ k
            before_limit h g = omega arith

        starts : Starts behind
        starts =
            record {
              objects = objects_behind found.0 s final found.1 st.objects;
              domain = extends_on _ _ s.objects.enumerations behind.objects.enumerations st.domain (made_front found.0 found.1 s).enumerations;
              counted = noted_holds final s found.0 found.1 (alike.kept st.counted.noted) counted st.counted;
            }

        made_here : MadeIn behind.objects at.setting at.scope c
        made_here =
            record {
              before = numbering s;
              fine = fine;
              dot_limit = few_dots found.0 s final (alike.kept st.counted.noted) counted st.counted.dot_limit;
              dots = subst (λ (l : List ℕ). Extends ℕ found.0.dots l) (sym (dots_behind found.0 s found.1)) (extends_same ℕ found.0.dots);
              thresholds = subst (λ (l : List Threshold). Extends Threshold found.0.thresholds l) (sym (thresholds_behind found.0 s found.1)) (extends_same Threshold found.0.thresholds);
              among = among_behind found.0 s found.1;
            }

        here_holds : Stands at → NotedFront behind.objects final → SiteHolds final s → SiteHolds final behind
        here_holds w d h =
            statement_holds final make at.setting w.Also at.scope w.architecture w.cases c.label c.statement
            (All-head (λ (x : Concurrent). IsWritten x.statement) c more rd.written) s fine (alike.kept st.counted.noted) counted d h

      pub behind_statement : (t : Site) → Runs at more behind t → Runs at (c ∷ more) s t
      behind_statement t q =
          record {
            front = front_on s.objects behind.objects t.objects (made_front found.0 found.1 s) q.front;
            holds = λ st rd f.
                let rest : RunHolds at more behind t = q.holds (starts st rd) (reads_more s behind rd (grown st rd)) f in
                let later : All (Kept t.objects) (c ∷ []) =
                all_later at.setting at.scope behind.objects t.objects q.front (record { dots = rest.grown.dots; thresholds = rest.grown.thresholds }) (c ∷ [])
                (All-cons (Kept behind.objects) c [] (λ p. made_here st rd) (All-nil (Kept behind.objects))) in
                record {
                  starts = rest.starts;
                  grown = grown_on s behind t (grown st rd) rest.grown;
                  made = All-cons (Kept t.objects) c more (All-head (Kept t.objects) c [] later) rest.made;
                  site = λ d w h. rest.site d w (here_holds st rd w (noted_before final behind t rest.grown d) h);
                };
          }
