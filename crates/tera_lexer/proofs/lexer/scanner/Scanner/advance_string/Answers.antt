use Rattle.tera_lexer.proofs.lexer.scanner.Scanner.advance_string.Goals as goal

pub advance_plain-requires-clause-printable : goal.advance_plain-requires-clause-printable
advance_plain-requires-clause-printable c =
    rw (c.if-begins_printable.true, c.as_bytes.ensures.value, c.rest-rest.ensures.rest) at c.begins_printable.ensures
