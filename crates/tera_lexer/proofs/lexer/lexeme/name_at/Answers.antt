use Rattle.std.proofs.Common.{◌≡◌, take, ap, ◌∙◌}
use Rattle.std.specs.List.{prefix_len}
use Rattle.tera_lexer.proofs.Cuts.{run_cut, name_ascii}
use Rattle.tera_lexer.proofs.Finds.{name_is_found}
use Rattle.tera_lexer.specs.grammar.Lexeme.{goes_on_name}
use Rattle.tera_lexer.specs.grammar.Tokens.{name_token}
use Rattle.tera_lexer.proofs.lexer.lexeme.name_at.Goals as goal
use Rattle.tera_lexer.proofs.lexer.lexeme.name_at.Goals.{After-name_len-len}

len_is : (c : After-name_len-len) → c.name_len-len.result ≡ prefix_len goes_on_name c.args.rest.now
len_is c = c.name_len-len.ensures ∙ ap (prefix_len goes_on_name) c.as_bytes.ensures.value

pub split_at-requires : goal.split_at-requires
split_at-requires c = rw (len_is c) (run_cut goes_on_name c.args.rest.now c.utf8.rest name_ascii)

pub returns : goal.returns
returns c =
    let len = len_is (goal.at.returns c).After-name_len-len in
    rw len (name_is_found c.args.rest.now _ c.requires (c.word.ensures ∙ ap name_token (c.split_at.ensures.front ∙ ap (λ n. take n c.args.rest.now) len)))
