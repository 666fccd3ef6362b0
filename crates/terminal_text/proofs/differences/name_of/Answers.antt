use Rattle.std.proofs.Common.{◌≡◌, ◌∙◌, ◌++◌, ◌∷◌, [], cond, codes, chars, sym, ap, subst, rules, IfOk, string_bytes}
use Rattle.std.proofs.lemmas.Iterator.{YieldsList-from_slice, YieldsList-from_chars}
use Rattle.std.proofs.lemmas.Iterator.Consumers.{YieldsList-end}
use Rattle.std.proofs.lemmas.Iterator.Search.{any_from_yields_List}
use Rattle.std.proofs.lemmas.Grind.{flat_map-append}
use Rattle.std.proofs.lemmas.List.{append_assoc, append-nil, map-id}
use Rattle.std.specs.List.{flat_map, list_any}
use Rattle.terminal_text.specs.Differences.{is_special, quoted_character, name_text}
use Rattle.terminal_text.proofs.differences.name_of.Goals as goal

pub returns-then-not-any : goal.returns-then-not-any
returns-then-not-any c =
    let file = c.args.file.now in
    let any : c.any.result ≡ list_any is_special file =
    any_from_yields_List is_special _ _ c.any.result c.any.ensures.ran (YieldsList-from_slice file (c.iter.ensures.rest ∙ c.as_bytes.ensures.value)) (λ x b q k. search rules) in
    let plain : name_text file ≡ file =
    ap (λ t. cond t (codes "\"" ++ (flat_map quoted_character (chars file) ++ codes "\"")) file) (sym any ∙ c.if-not-any.true) in
    subst (λ l. IfOk c.from_str.result (λ t. string_bytes t ≡ l)) (sym plain) c.from_str.ensures.ok

pub characters-preserved : goal.characters-preserved
characters-preserved c =
    let x = c.in-Some.character in
    let y = c.characters.yielded in
    c.in_ok-push_quoted.ensures ∙ ap (λ l. l ++ quoted_character x) c.characters.invariant
    ∙ append_assoc (codes "\"") (flat_map quoted_character y) (quoted_character x)
    ∙ ap (λ l. codes "\"" ++ l)
    (ap (λ l. flat_map quoted_character y ++ l) (sym (append-nil (quoted_character x))) ∙ sym (flat_map-append quoted_character y (x ∷ [])))

pub returns : goal.returns
returns c =
    let file = c.args.file.now in
    let any : c.any.result ≡ list_any is_special file =
    any_from_yields_List is_special _ _ c.any.result c.any.ensures.ran (YieldsList-from_slice file (c.iter.ensures.rest ∙ c.as_bytes.ensures.value)) (λ x b q k. search rules) in
    let all = YieldsList-end (YieldsList-from_chars file c.utf8.file cc) c.characters.yielded _ c.characters.yielded_by _ _ c.in-None.is c.next.ensures.steps in
    c.in_ok-push_str-2.ensures.bytes
    ∙ ap (λ l. l ++ codes "\"") c.characters.invariant
    ∙ append_assoc (codes "\"") (flat_map quoted_character c.characters.yielded) (codes "\"")
    ∙ ap (λ l. codes "\"" ++ (flat_map quoted_character l ++ codes "\"")) (sym (map-id c.characters.yielded) ∙ all.0)
    ∙ ap (λ t. cond t (codes "\"" ++ (flat_map quoted_character (chars file) ++ codes "\"")) file) (sym c.if-not-any.false ∙ any)
