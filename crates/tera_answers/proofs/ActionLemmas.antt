-- Actions that are written one after another.
use Rattle.std.proofs.Common.{◌≡◌, ◌++◌, ℕ, List, [], ◌∷◌, Option, None, Some, option_map, filter_map, flat_map, refl, ap}
use Rattle.json.specs.Tree.{json_tokens}
use Rattle.tera_fixes.specs.Suggestions.{SuggestionVal}
use Rattle.text_edits.specs.declared.positions.Encoding.{Encoding}
use Rattle.tera_answers.specs.Actions.{action_json, action_tokens}

pub actions_written : (e : Encoding) (uri source : List ℕ) (ss : List (Option SuggestionVal)) → flat_map (action_tokens e uri source) ss ≡ flat_map json_tokens (filter_map (option_map (action_json e uri source)) ss)
unfolding action_tokens
actions_written e uri source [] = refl
actions_written e uri source (None ∷ ss) = actions_written e uri source ss
actions_written e uri source (Some s ∷ ss) = ap (λ ts. json_tokens (action_json e uri source s) ++ ts) (actions_written e uri source ss)
