use Rattle.std.proofs.Common.{rules, Some, ◌∙◌, ap, subst, string_bytes}
use Rattle.tera_lexer.specs.code.Steps.{Steps}
use Rattle.tera_lexer.specs.grammar.Marks.{marks_of}
use Rattle.tera_layout.proofs.WrittenLayout.{first_written, further_written}
use Rattle.tera_layout.proofs.formatting.push_tokens.Goals as goal

pub tokens-init : goal.tokens-init
tokens-init c = record {
  source = c.requires.source;
  written =
      first_written (marks_of c.args.delimiters.now) c.args.source.now (string_bytes c.args.out.now) c.before_all-reached.result c.default-last.result c.args.tokens.now.left c.utf8.source
      c.before_all-reached.ensures (search rules) (search rules) c.requires.follow;
}

pub tokens-preserved-in_ok-run : goal.tokens-preserved-in_ok-run
tokens-preserved-in_ok-run c = record {
  source = ap (λ s. s.source) (subst (λ x. Steps c.tokens.tokens (Some x) c.next.new.self) c.in_ok-token.was c.in-Some.ensures.steps).1 ∙ c.tokens.invariant.source;
  written =
      further_written c.tokens.tokens c.next.new.self (c.in_ok-token.token, c.in_ok-token.span) c.following-next.result (string_bytes c.push_gap.new.out)
      c.in_ok-run.run' c.join-join.result c.tokens.invariant.written c.tokens.invariant.source
      (subst (λ x. Steps c.tokens.tokens (Some x) c.next.new.self) c.in_ok-token.was c.in-Some.ensures.steps)
      c.following-next.ensures c.join-join.ensures c.in_ok-run.ensures.cut c.in_ok-run.ensures.text;
}

pub tokens-preserved : goal.tokens-preserved
tokens-preserved c = record {
  source = ap (λ s. s.source) (subst (λ x. Steps c.tokens.tokens (Some x) c.next.new.self) c.in_ok-token.was c.in-Some.ensures.steps).1 ∙ c.tokens.invariant.source;
  written =
      further_written c.tokens.tokens c.next.new.self (c.in_ok-token.token, c.in_ok-token.span) c.following-next.result (string_bytes c.push_gap.new.out)
      c.in_ok-run.run' c.join-join.result c.tokens.invariant.written c.tokens.invariant.source
      (subst (λ x. Steps c.tokens.tokens (Some x) c.next.new.self) c.in_ok-token.was c.in-Some.ensures.steps)
      c.following-next.ensures c.join-join.ensures c.in_ok-run.ensures.cut c.in_ok-run.ensures.text;
}
