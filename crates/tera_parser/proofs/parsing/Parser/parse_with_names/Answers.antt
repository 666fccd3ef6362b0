use Rattle.std.proofs.Common.{◌≡◌, refl, sym, ap, ◌∙◌, subst}
use Rattle.std.specs.Prelude.{◌⊎◌}
use Rattle.tera_base.specs.ErrorView.{error_view}
use Rattle.tera_base.specs.Errors.{IsMemory}
use Rattle.tera_grammar.specs.statements.Grammar.{Body}
use Rattle.tera_grammar.specs.statements.Output.{output_of}
use Rattle.tera_grammar.specs.statements.Places.{Places, places}
use Rattle.tera_grammar.specs.statements.Top.{DerivesNames, IsTemplate}
use Rattle.tera_grammar.proofs.statements.Wholes.{derived, names_unique}
use Rattle.tera_lexer.specs.grammar.Marks.{IsValid}
use Rattle.tera_lexer.specs.grammar.Tokens.{AreTokensOf}
use Rattle.tera_tags.specs.Known.{AreNames}
use Rattle.tera_tree.specs.Outputs.{output_view}
use Rattle.tera_statements.specs.Templates.{RefusesTemplate}
use Rattle.tera_parser.specs.Job.{Job}
use Rattle.tera_parser.specs.Notes.{error_about}
use Rattle.tera_parser.proofs.About.{memory_about, notes_name}
use Rattle.tera_parser.proofs.Wholes.{comments_tokens, derives, first_about, loses, loses_about, notes_first, refused, refuses, refuses_about}
use Rattle.tera_parser.proofs.parsing.Parser.parse_with_names.Goals as goal
use Rattle.tera_parser.proofs.parsing.Parser.parse_with_names.Goals.{After-in_file, After-new-cursor, In-Ok}

valid : (c : After-new-cursor) → IsValid c.args.self.marks
valid c = subst (λ (j : Job). IsValid j.marks) c.self.view_is c.self.invariant.0

-- the tokens that the cursor has left are those of the source
are : (c : After-new-cursor) → AreTokensOf c.args.self.marks c.args.self.source c.new-cursor.result.left
are c =
    let given = subst (λ (j : Job). AreTokensOf j.marks j.source c.tokenize-tokens.result.left) c.self.view_is c.tokenize-tokens.ensures.tokens in
    subst (AreTokensOf c.args.self.marks c.args.self.source) (sym c.new-cursor.ensures.left) given

-- what was read is derived, with its names
found : (c : In-Ok) → IsValid c.args.self.marks → AreTokensOf c.args.self.marks c.args.self.source c.new-cursor.result.left
    → (ns : Places) × DerivesNames c.args.self.limits c.args.self.marks c.args.self.source (output_view c.in-Ok.read.0) ns × AreNames c.in-Ok.read.1 ns
found c valid are =
    let (b, is, same, named) = subst (λ (j : Job). (b : Body) × IsTemplate j.limits c.new-cursor.result.left b × (output_view c.in-Ok.read.0 ≡ output_of b) × AreNames c.in-Ok.read.1 (places b))
    c.self.view_is c.in-Ok.ensures.gives in
    (places b, derives _ valid _ _ are c.args.self.limits b is _ same, named)

pub returns-in-Ok-clause-sound : goal.returns-in-Ok-clause-sound
returns-in-Ok-clause-sound c =
    let at = goal.at.returns-in-Ok-clause-sound c in
    found at.In-Ok (valid at.After-new-cursor) (are at.After-new-cursor)

pub returns-in-Ok-clause-complete : goal.returns-in-Ok-clause-complete
returns-in-Ok-clause-complete c = λ output ms d.
    let at = goal.at.returns-in-Ok-clause-complete c in
    let (ns, read, named) = found at.In-Ok (valid at.After-new-cursor) (are at.After-new-cursor) in
    let (same, places_same) = names_unique c.args.self.limits _ (valid at.After-new-cursor) _ _ output ns ms read d in
    (same, subst (AreNames c.in-Ok.read.1) places_same named)

-- what is answered is the error that was met, whose notes are about the parser's file
named : (c : After-in_file) → IsMemory c.in_file.result ⊎ (error_view c.in_file.result ≡ error_about c.args.self.filename (error_view c.in-Err.error))
named c =
    subst (λ (j : Job). IsMemory c.in_file.result ⊎ (error_view c.in_file.result ≡ error_about j.filename (error_view c.in-Err.error))) c.self.view_is c.in_file.ensures

pub returns-in-Err-clause-complete : goal.returns-in-Err-clause-complete
returns-in-Err-clause-complete c = λ output ns d.
    let at = (goal.at.returns-in-Err-clause-complete c).After-new-cursor in
    let why = subst (λ (j : Job). IsMemory c.in-Err.error ⊎ ((b : Body) → IsTemplate j.limits c.new-cursor.result.left b → ⊥)) c.self.view_is c.in-Err.ensures.gives in
    memory_about c.args.self.filename c.in-Err.error c.in_file.result (named (goal.at.returns-in-Err-clause-complete c).After-in_file)
    (refused _ (valid at) _ _ (are at) c.args.self.limits c.in-Err.error why output (derived _ _ _ output ns d))

pub returns-in-Err-clause-refusal : goal.returns-in-Err-clause-refusal
returns-in-Err-clause-refusal c =
    let at = (goal.at.returns-in-Err-clause-refusal c).After-new-cursor in
    let whole = c.new-cursor.ensures.source ∙ c.tokenize-tokens.ensures.source ∙ ap (λ (j : Job). j.source) c.self.view_is in
    refuses_about _ _ c.args.self.filename c.in-Err.error c.in_file.result (named (goal.at.returns-in-Err-clause-refusal c).After-in_file)
    (refuses c.args.self.marks (valid at) c.args.self.source c.new-cursor.result.left (are at) c.args.self.limits c.new-cursor.result refl whole c.in-Err.error
    (subst (λ (j : Job). RefusesTemplate j.limits c.new-cursor.result c.in-Err.error) c.self.view_is c.in-Err.ensures.refusal))

pub returns-in-Err-clause-lost : goal.returns-in-Err-clause-lost
returns-in-Err-clause-lost c =
    let at = (goal.at.returns-in-Err-clause-lost c).After-new-cursor in
    loses_about c.args.self.limits _ _ c.args.self.filename c.in-Err.error c.in_file.result (named (goal.at.returns-in-Err-clause-lost c).After-in_file)
    (loses c.args.self.marks (valid at) c.args.self.source c.new-cursor.result.left (are at) c.args.self.limits c.new-cursor.result refl c.in-Err.error
    (subst (λ (j : Job). RefusesTemplate j.limits c.new-cursor.result c.in-Err.error) c.self.view_is c.in-Err.ensures.refusal))

pub returns-in-Err-clause-notes : goal.returns-in-Err-clause-notes
returns-in-Err-clause-notes c =
    notes_name c.args.self.filename c.in-Err.error c.in_file.result (named (goal.at.returns-in-Err-clause-notes c).After-in_file)

pub returns-in-Err-clause-first : goal.returns-in-Err-clause-first
returns-in-Err-clause-first c =
    let at = (goal.at.returns-in-Err-clause-first c).After-new-cursor in
    first_about c.args.self.marks c.args.self.source c.args.self.filename c.in-Err.error c.in_file.result (named (goal.at.returns-in-Err-clause-first c).After-in_file)
    (notes_first c.args.self.marks (valid at) c.args.self.source c.new-cursor.result.left (are at) c.args.self.limits c.new-cursor.result refl c.in-Err.error
    (subst (λ (j : Job). RefusesTemplate j.limits c.new-cursor.result c.in-Err.error) c.self.view_is c.in-Err.ensures.refusal))

pub returns-in-Err-clause-empty : goal.returns-in-Err-clause-empty
returns-in-Err-clause-empty c = λ empty.
    let at = (goal.at.returns-in-Err-clause-empty c).After-new-cursor in
    absurd (c.in-Err.ensures.empty (comments_tokens _ (valid at) _ _ (are at) empty))
