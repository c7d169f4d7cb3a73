-- The scope of an architecture at an instance, as the laws of its statements ask it.
use Rattle.std.specs.Prelude.{◌≡◌, ◌<◌, ℕ, List, [], length, Option, Some, IfSome}
use Rattle.ams_tree.specs.declared.concurrent.ConcurrentStatement.{ConcurrentStatement}
use Rattle.ams_tree.specs.declared.design.Architecture.{Architecture}
use Rattle.ams_tree.specs.declared.design.Entity.{Entity}
use Rattle.ams_tree.specs.declared.expression.Name.{Name}
use Rattle.ams_token.specs.declared.tokens.Tokens.{Tokens}
use Rattle.ams_value.specs.declared.value_type.ValueType.TheVariants.{Enumeration as EnumerationType}
use Rattle.ams_lexer.specs.Texts.{HasTokens}
use Rattle.flat_design.specs.declared.objects.Objects.{Objects}
use Rattle.flat_design.specs.declared.objects.Process.{Process}
use Rattle.name_scope.specs.declared.scope.Scope.{Scope}
use Rattle.name_scope.specs.declared.thing.Kind.TheVariants.{Of}
use Rattle.name_scope.specs.Scopes.{lookup}
use Rattle.elab_meaning.specs.declared.fault.Notes.{Notes}
use Rattle.elab_meaning.specs.Notes.{text_of}
use Rattle.unit_meaning.specs.declared.request.Request.{Request}
use Rattle.unit_meaning.specs.declared.site.Site.{Site}
use Rattle.unit_meaning.specs.Settings.{Setting}
use Rattle.unit_meaning.specs.Concurrent.{concurrent}
use Rattle.unit_meaning.specs.Units.{setting_of, opened}
use Rattle.unit_meaning.specs.Walk.{Entry, entry_of_instance}
use Rattle.design_rules.specs.Types.{sizes_of, equation_scope}
use Rattle.design_rules.specs.Statements.{IsText}
use Rattle.typed_laws.specs.Fitting.{HasRoom}
use Rattle.scope_laws.specs.Holds.{HasNoFaults, ScopeHolds, StandsBefore}
use Rattle.written_laws.specs.Written.{IsWritten}
use Rattle.choice_laws.specs.Choices.{CountsLiterals}
use Rattle.kind_laws.specs.Kinds.{ThingCounts}
use Rattle.allowed_laws.specs.Simple.{HasTexts, SelectorsFit}
use Rattle.body_laws.specs.Bodies.{CasesFit}
use Rattle.made_laws.specs.Made.{ValuesFit, ArchitectureStands}
use Rattle.concurrent_laws.specs.Concurrent.{IsMade, CasesStand}
use Rattle.architecture_laws.specs.Counts.{has_counted, NamesCount}

-- names of the design's things, whose enumeration types have the design's literals; DOMAIN is of enumeration type 0
pub record ScopeCounts (final : Objects) (w : Setting) (scope : Scope) : Type 0 where
  pub holds : ScopeHolds (equation_scope final) [] [] scope
  pub domain : CountsLiterals w.enumerations (sizes_of final) (Of (EnumerationType 0))
  pub names : NamesCount final w scope

pub record ArchitecturesStand : Type 0 where
  -- each text of the table of names may stand in a message
  pub texts : (text : List ℕ) (tokens : Tokens) → HasTokens text tokens → (x : ℕ) → IsText (text_of tokens.names x)
  -- the names of an instance, if what it declares stands at the front of the final design
  pub names : (final : Objects) (texts : List (List ℕ)) (r : Request) (s : Site) (e : Entity) (a : Architecture) (entry : Entry)
      → 0 < length s.objects.enumerations → entry_of_instance texts r e s ≡ Some entry → StandsBefore (opened texts a entry.book).objects final
      → NamesCount final (setting_of texts (opened texts a entry.book) a) (opened texts a entry.book).scope
  pub things : (final : Objects) (w : Setting) (scope : Scope) → NamesCount final w scope → (x : ℕ) → IfSome (lookup scope x) (ThingCounts w.enumerations (sizes_of final))
  -- the choices of cases in processes, and the values of their declarations
  pub choices : (final : Objects) (w : Setting) (p : Process) → CountsLiterals w.enumerations (sizes_of final) (Of (EnumerationType 0)) → CasesFit final p w (has_counted w.enumerations (sizes_of final))
  pub values : (final : Objects) (w : Setting) → ValuesFit final w (has_counted w.enumerations (sizes_of final))
  -- simultaneous cases
  pub cases : (final : Objects) (w : Setting) (scope : Scope) → ScopeCounts final w scope → CasesStand final w scope
  -- the whole
  pub stands : (final : Objects) (w : Setting) (scope : Scope) → ScopeCounts final w scope → SelectorsFit final w scope → HasTexts w
      → ArchitectureStands final w (has_counted w.enumerations (sizes_of final)) scope
  -- so what a statement makes is a process or an equation of a well-formed design
  pub made : (final : Objects) (w : Setting) (scope : Scope) (label : Option Name) (x : ConcurrentStatement) (n : Notes)
      → ScopeCounts final w scope → SelectorsFit final w scope → HasTexts w → IsWritten x
      → HasNoFaults (concurrent w scope label x n).0 → HasRoom (equation_scope final) (concurrent w scope label x n).0 → IsMade final (concurrent w scope label x n).1
