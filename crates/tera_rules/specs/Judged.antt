-- What is found in a call of a component.
use Rattle.std.specs.Prelude.{ℕ, List, [], ◌∷◌, ◌++◌, Bool, true, false, not, ◌&&◌, ◌||◌, if◌then◌else◌, nat_eq, Option, None, Some, codes, suc, string_bytes}
use Rattle.std.specs.List.{flat_map, list_any}
use Rattle.std.specs.Option.{is_some, option_map}
use Rattle.std.specs.Str.{bytes_eq}
use Rattle.tera_base.specs.Contexts.{found}
use Rattle.tera_base.specs.Kinds.{kind_of}
use Rattle.tera_base.specs.Values.{Val}
use Rattle.tera_base.specs.declared.utils.Span.{Span}
use Rattle.tera_ast.specs.Tree.{Expr, ComponentCall, Nodes}
use Rattle.tera_tree.specs.Calls.{wrong_type_text, missing_text, unknown_text}
use Rattle.tera_tree.specs.Tree.{Argument, Definition}
use Rattle.tera_tree.specs.Types.{is_of_type}
use Rattle.tera_tree.specs.View.{definition_view}
use Rattle.tera_tree.specs.declared.ast.ArgType.{ArgType}
use Rattle.tera_rules.specs.Bodies.{is_blank_body}
use Rattle.tera_findings.specs.Findings.{NoteVal, NoteOf, FindingVal, FindingOf}
use Rattle.tera_grammar.specs.statements.Reading.Meeting.{Located, nothing_located}
use Rattle.tera_tags.specs.Known.{located_of}
use Rattle.tera_rules.specs.Passed.{NamedVal, PassedVal, OneNamed, Whatever, is_passed, has_whatever, passed_by}
use Rattle.tera_rules.specs.Repeated.{repeated_findings}
use Rattle.tera_rules.specs.declared.arguments.Remark.{Remark}
use Rattle.tera_rules.specs.declared.known.Known.{Known}
use Rattle.tera_findings.specs.declared.finding.Kind.{Kind}
use Rattle.tera_findings.specs.declared.finding.Kind.TheVariants as kinds
use Rattle.tera_rules.specs.declared.repeated.Holder.TheVariants as holders

-- a component that is known: its definition, the number and the file of its template, and where its name and its
-- parameters are there
pub record KnownVal : Type 0 where
  pub definition : Definition
  pub template : ℕ
  pub file : List ℕ
  pub span : Span
  pub parameters : Located
  pub shows_body : Bool

-- where the parameters are, if that is known
abbrev pub located_if_any : Option Located → Located
located_if_any None = nothing_located
located_if_any (Some names) = names

abbrev pub known_view : Known → KnownVal
known_view k = record {
  definition = definition_view k.definition.now;
  template = k.template;
  file = k.file.now;
  span = k.span;
  parameters = located_if_any (option_map (λ names. located_of names.now) k.parameters);
  shows_body = k.shows_body;
}

-- an implicit parameter of this name
abbrev pub takes_it : List ℕ → List ℕ × Argument → Bool
takes_it n a = a.1.implicit && bytes_eq a.0 n

-- which variables a call may take by itself, whether it passes values for them or not: those of the implicit parameters
-- of its component, except one that a loop hides; and any variable, if no template defines the component
abbrev pub taken_by : Option KnownVal → Bool → List ℕ → Bool
taken_by None hidden n = true
taken_by (Some k) hidden n = not hidden && list_any (takes_it n) k.definition.arguments

-- a finding about a call of the component, with a note at its definition
abbrev pub here_text : List ℕ → List ℕ
here_text name = codes "`" ++ (name ++ codes "` is defined here")

abbrev pub defined_here : KnownVal → NoteVal
defined_here k = NoteOf k.file k.span (here_text k.definition.name)

-- the kind of a finding, and its text
pub record RemarkVal : Type 0 where
  pub kind : Kind
  pub text : List ℕ

abbrev pub remark_view : Remark → RemarkVal
remark_view r = record { kind = r.kind; text = string_bytes r.message }

abbrev pub about : KnownVal → Span → RemarkVal → FindingVal
about k span r = FindingOf r.kind span r.text (defined_here k ∷ [])

abbrev pub remarked : KnownVal → Span → Option RemarkVal → List FindingVal
remarked k span None = []
remarked k span (Some r) = about k span r ∷ []

-- ---- why the component does not accept a value under a name, if it does not; the type is known of a constant only

abbrev pub wrong_type : List ℕ → Val → ArgType → RemarkVal
wrong_type n v t = record { kind = kinds.WrongType; text = wrong_type_text n v t }

abbrev pub refused_type : Option ArgType → List ℕ → Option Val → Option RemarkVal
refused_type (Some t) n (Some v) = if is_of_type t (kind_of v) then None else Some (wrong_type n v t)
refused_type (Some t) n None = None
refused_type None n v = None

abbrev pub unless_rest : Option (List ℕ) → RemarkVal → Option RemarkVal
unless_rest (Some rest) r = None
unless_rest None r = Some r

abbrev pub unknown : Definition → List ℕ → RemarkVal
unknown d n = record { kind = kinds.UnknownArgument; text = unknown_text (n ∷ []) d.arguments }

abbrev pub refused_name : Definition → List ℕ → Option RemarkVal
refused_name d n = unless_rest d.rest (unknown d n)

abbrev pub refused_for : Option Argument → Definition → List ℕ → Option Val → Option RemarkVal
refused_for (Some a) d n v = refused_type a.typ n v
refused_for None d n v = refused_name d n

abbrev pub refusal : Definition → List ℕ → Option Val → Option RemarkVal
refusal d n v = refused_for (found n d.arguments) d n v

-- ---- what is passed and not accepted: if a name comes again, its last value counts; if more may be passed after a
-- constant, it may not be the value that counts

abbrev pub counted : Bool → Option Val → Option Val
counted more v = if more then None else v

abbrev pub refused : KnownVal → Bool → NamedVal → List FindingVal
refused k more p = remarked k p.span (refusal k.definition p.name (counted more p.constant))

abbrev pub refused_one : KnownVal → Bool → Bool → PassedVal → List FindingVal
refused_one k again more (OneNamed p) = if again then [] else refused k more p
refused_one k again more Whatever = []

abbrev pub is_again : PassedVal → List PassedVal → Bool
is_again (OneNamed p) ps = is_passed p.name ps
is_again Whatever ps = false

abbrev pub refused_findings : KnownVal → List PassedVal → List FindingVal
refused_findings k [] = []
refused_findings k (p ∷ ps) = refused_findings k ps ++ refused_one k (is_again p ps) (has_whatever ps) p

-- ---- what has to be passed and is not

abbrev pub is_required : Argument → Bool
is_required a = not a.implicit && not (is_some a.default)

abbrev pub missing : List ℕ × Argument → RemarkVal
missing a = record { kind = kinds.MissingArgument; text = missing_text a.0 a.1.typ false }

abbrev pub missed : (List ℕ → Bool) → List ℕ × Argument → Option RemarkVal
missed passed a = if is_required a.1 && not (passed a.0) then Some (missing a) else None

abbrev pub missing_findings : KnownVal → (List ℕ → Bool) → Span → List FindingVal
missing_findings k passed span = flat_map (λ a. remarked k span (missed passed a)) k.definition.arguments

abbrev pub missing_in : KnownVal → Span → List PassedVal → List FindingVal
missing_in k span ps = if has_whatever ps then [] else missing_findings k (λ n. is_passed n ps) span

-- ---- what is found in what a call at a span passes, to a component that is known or not

abbrev pub undefined_text : List ℕ → List ℕ
undefined_text name = codes "No template defines a component named `" ++ (name ++ codes "`")

abbrev pub undefined : Span → List ℕ → FindingVal
undefined span name = FindingOf kinds.UndefinedComponent span (undefined_text name) []

abbrev pub judged : Option KnownVal → List ℕ → Span → List PassedVal → List FindingVal
judged None name span ps = undefined span name ∷ []
judged (Some k) name span ps = refused_findings k ps ++ missing_in k span ps

-- ---- a body that is not only white space, for a component that never shows it

abbrev pub unused_body_text : List ℕ → List ℕ
unused_body_text name = codes "Component `" ++ (name ++ codes "` never renders the body it is given")

abbrev pub unused_body : Bool → List ℕ → Nodes → Option RemarkVal
unused_body shows name body =
    if shows || is_blank_body body then None else Some (record { kind = kinds.UnusedBody; text = unused_body_text name })

abbrev pub unused_bodies : Option KnownVal → Span → Nodes → List FindingVal
unused_bodies None span body = []
unused_bodies (Some k) span body = remarked k span (unused_body k.shows_body k.definition.name body)

-- ---- a call in a file

abbrev pub call_findings : List ℕ → (List ℕ → Option KnownVal) → Expr → List FindingVal
call_findings file known (ComponentCall name es body closed span) =
    repeated_findings holders.Call file es ++ (judged (known name) name span (passed_by es) ++ unused_bodies (known name) span body)
call_findings file known _ = []

-- ---- a definition whose name is at a span, of a component that another template defines first

abbrev pub again_text : List ℕ → List ℕ
again_text name = codes "Another template already contains a component named `" ++ (name ++ codes "`")

abbrev pub first_text : List ℕ
first_text = codes "first defined here"

abbrev pub again : KnownVal → Span → FindingVal
again k span = FindingOf kinds.DefinedAgain span (again_text k.definition.name) (NoteOf k.file k.span first_text ∷ [])

abbrev pub defined_again : ℕ → Span → Option KnownVal → List FindingVal
defined_again number span None = []
defined_again number span (Some k) = if nat_eq k.template number then [] else again k span ∷ []

abbrev pub again_findings : (List ℕ → Option KnownVal) → ℕ → (ℕ → Span) → ℕ → List Definition → List FindingVal
again_findings known number spans at [] = []
again_findings known number spans at (d ∷ ds) =
    defined_again number (spans at) (known d.name) ++ again_findings known number spans (suc at) ds
