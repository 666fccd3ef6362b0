use Rattle.std.proofs.Common.{◌∙◌, ◌++◌, sym, ap, string_bytes}
use Rattle.std.proofs.lemmas.Iterator.{YieldsList-from_chars}
use Rattle.std.proofs.lemmas.Iterator.Consumers.{YieldsList-end}
use Rattle.std.proofs.lemmas.List.{append_assoc, map-id}
use Rattle.std.specs.List.{flat_map}
use Rattle.tera_report.specs.Annotations.{escaped_character}
use Rattle.tera_report.proofs.Texts.{one_more}
use Rattle.tera_report.proofs.github.push_escaped.Goals as goal

pub characters-preserved : goal.characters-preserved
characters-preserved c =
    let x = c.in-Some.character in
    let f = escaped_character in
    c.in_ok-push_character.ensures
    ∙ ap (λ l. l ++ f x) c.characters.invariant
    ∙ append_assoc (string_bytes c.args.to.now) (flat_map f c.characters.yielded) (f x)
    ∙ ap (λ l. string_bytes c.args.to.now ++ l) (sym (one_more f c.characters.yielded x))

pub returns : goal.returns
returns c =
    let all = YieldsList-end (YieldsList-from_chars c.args.text.now c.utf8.text cc) c.characters.yielded _ c.characters.yielded_by _ _ c.in-None.is c.next.ensures.steps in
    c.characters.invariant
    ∙ ap (λ l. string_bytes c.args.to.now ++ flat_map escaped_character l) (sym (map-id c.characters.yielded) ∙ all.0)
