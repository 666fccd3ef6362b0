use Rattle.std.proofs.Common.{◌∙◌, sym, string_bytes}
use Rattle.std.proofs.lemmas.Option.{same_Some}
use Rattle.tera_lexer.specs.grammar.Marks.{marks_of}
use Rattle.tera_layout.proofs.Defaults.{same_tokens}
use Rattle.tera_layout.proofs.WrittenLayout.{source_follow, source_written, source_refused, laid_refused}
use Rattle.tera_layout.proofs.formatting.format_between.Goals as goal

pub push_tokens-requires-clause-follow : goal.push_tokens-requires-clause-follow
push_tokens-requires-clause-follow c =
    let marks = marks_of c.args.delimiters.now in
    source_follow marks c.requires.valid c.args.source.now c.tokenize-tokens.result.left
    (same_tokens (marks_of c.in_ok-clone.field-0) marks c.args.source.now _ c.in_ok-clone.ensures.cases
    c.tokenize-tokens.ensures.tokens)

pub returns-in-Ok-clause-sound : goal.returns-in-Ok-clause-sound
returns-in-Ok-clause-sound c =
    let marks = marks_of c.args.delimiters.now in
    source_written marks c.requires.valid c.args.source.now (string_bytes c.new-out.result)
    (string_bytes c.push_tokens.new.out) c.tokenize-tokens.result.left
    (same_tokens (marks_of c.in_ok-clone.field-0) marks c.args.source.now _ c.in_ok-clone.ensures.cases
    c.tokenize-tokens.ensures.tokens)
    c.new-out.ensures.bytes c.in-Ok.ensures.text

pub returns-in-Ok-clause-complete : goal.returns-in-Ok-clause-complete
returns-in-Ok-clause-complete c = λ layout is.
    let marks = marks_of c.args.delimiters.now in
    same_Some _ _
    (sym (source_written marks c.requires.valid c.args.source.now (string_bytes c.new-out.result)
    (string_bytes c.push_tokens.new.out) c.tokenize-tokens.result.left
    (same_tokens (marks_of c.in_ok-clone.field-0) marks c.args.source.now _ c.in_ok-clone.ensures.cases
    c.tokenize-tokens.ensures.tokens)
    c.new-out.ensures.bytes c.in-Ok.ensures.text) ∙ is)

pub returns-clause-complete : goal.returns-clause-complete
returns-clause-complete c = λ layout is.
    let marks = marks_of c.args.delimiters.now in
    laid_refused marks c.args.source.now layout c.in-Err.error is
    (source_refused marks c.requires.valid c.args.source.now c.tokenize-tokens.result.left c.in-Err.error
    (same_tokens (marks_of c.in_ok-clone.field-0) marks c.args.source.now _ c.in_ok-clone.ensures.cases
    c.tokenize-tokens.ensures.tokens)
    c.in-Err.ensures.refusal)

pub returns-clause-refusal : goal.returns-clause-refusal
returns-clause-refusal c =
    let marks = marks_of c.args.delimiters.now in
    source_refused marks c.requires.valid c.args.source.now c.tokenize-tokens.result.left c.in-Err.error
    (same_tokens (marks_of c.in_ok-clone.field-0) marks c.args.source.now _ c.in_ok-clone.ensures.cases
    c.tokenize-tokens.ensures.tokens)
    c.in-Err.ensures.refusal
