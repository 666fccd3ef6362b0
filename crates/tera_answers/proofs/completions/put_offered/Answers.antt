use Rattle.std.proofs.Common.{◌∙◌, ◌++◌, ℕ, List, map, string_bytes, ap}
use Rattle.json.specs.Json.{array}
use Rattle.json.specs.Tree.{json_tokens}
use Rattle.json.specs.Value.{items_of}
use Rattle.tera_outline.specs.Names.{name_view, names_of}
use Rattle.tera_outline.specs.Pieces.{part_of}
use Rattle.tera_tree.specs.Calls.{texts, once_each}
use Rattle.tera_answers.specs.Completions.{item_json, kind_number, offered}
use Rattle.tera_editor.specs.Settings.{registered_view}
use Rattle.tera_editor.specs.Templates.{roots_view}
use Rattle.tera_answers.proofs.Tails.{and_so}
use Rattle.tera_answers.proofs.completions.put_offered.Goals as goal

pub returns : goal.returns
returns c =
    let place = c.args.place in
    let w = c.args.offering.workspace.now in
    let roots = roots_view c.args.offering.roots in
    let r = registered_view c.args.registered in
    let parts = map part_of c.args.pieces.now in
    let written = λ (names : List (List ℕ)). c.args.out.now.tokens ++ json_tokens (array (items_of (map (item_json place.start place.end (kind_number place.kind)) names))) in
    record {
      tokens =
          and_so c.put_items.result c.put_items.ensures.tokens
          (λ h. h
          ∙ ap written
          (c.in_ok-sorted.ensures
          ∙ ap (λ names. once_each (texts names)) c.as_slice-3.ensures.value
          ∙ ap once_each
          (c.in_ok-names.ensures
          ∙ ap (λ named. offered w roots r (map name_view named) (texts c.as_slice-2.result.now) place.kind) c.as_slice.ensures.value
          ∙ ap (λ named. offered w roots r named (texts c.as_slice-2.result.now) place.kind) c.in_ok-named.ensures
          ∙ ap (λ bound. offered w roots r (names_of parts) (texts bound) place.kind) c.as_slice-2.ensures.value
          ∙ ap (λ bound. offered w roots r (names_of parts) bound place.kind) c.in_ok-bound.ensures)));
      before = c.put_items.ensures.before;
    }
