use Rattle.tera_answers.proofs.signatures.put_label.Goals as goal

pub returns : goal.returns
returns c = c.put_tokens.ensures
