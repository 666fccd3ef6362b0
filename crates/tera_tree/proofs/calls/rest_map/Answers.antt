use Rattle.std.proofs.Common.{◌≡◌, [], ◌∷◌, ◌++◌, Err, get_or, string_bytes, ℕ, List, sym, ap, ◌∙◌, arith, rules}
use Rattle.std.specs.Fn.{FnReturnsAt}
use Rattle.tera_tree.specs.Outcomes.{Gives}
use Rattle.tera_base.specs.Values.{Pairs, NoPairs, TextKey}
use Rattle.tera_base.specs.ValueView.{value_view, pairs_view}
use Rattle.tera_base.specs.declared.values.Key.TheVariants.{String}
use Rattle.tera_tree.proofs.Coming.{came, gave, turn_stopped, zip_more}
use Rattle.tera_tree.specs.Calls.{Pair, put_pair, put_pairs, RestNameComesTo}
use Rattle.tera_tree.proofs.CallNames.{Name, split_texts, take_texts, take_whole, put_pairs_more, pairs_put, among_names}
use Rattle.tera_tree.proofs.calls.rest_map.Goals as goal

-- what is in no list
no_name : Name
no_name = record { ref_ptr = (0, 0); now = [] }

pub returns-in_err-value : goal.returns-in_err-value
unfolding no_name
returns-in_err-value g c =
    let same : c.from_residual.result ≡ Err c.in_err-value.field-0.0 = search rules in
    rw same (turn_stopped _ (RestNameComesTo (FnReturnsAt g.G.Fn c.args.get_value.now)) _ _ _ _ _ _ c.loop-name.invariant.0 _ (split_texts c.args.names.now c.loop-name.name-index no_name (omega arith)) c.loop-name.invariant.1 c.in_err-value.ensures)

pub loop-name-preserved : goal.loop-name-preserved
unfolding no_name
loop-name-preserved g c =
    let l = c.loop-name in
    let name : List ℕ = (get_or c.args.names.now l.name-index no_name).now in
    let p : Pair = (name, value_view c.in_ok-value.value) in
    let named : string_bytes c.in_ok-from_str.field-0 ≡ name = c.in_ok-from_str.ensures.ok in (
      l.invariant.0 ++ p ∷ [],
      rw (take_texts c.args.names.now l.name-index no_name (omega arith)) (zip_more _ _ _ _ _ l.invariant.1 (came _ _ _ c.in_ok-value.ensures)),
      ap pairs_view c.in_ok-insert.ensures.pairs
          ∙ pairs_put (String c.in_ok-from_str.field-0) c.in_ok-value.value l.map
          ∙ ap (λ (m : Pairs). put_pair (TextKey (string_bytes c.in_ok-from_str.field-0)) (value_view c.in_ok-value.value) m) l.invariant.2
          ∙ ap (λ n. put_pair (TextKey n) (value_view c.in_ok-value.value) (put_pairs l.invariant.0 NoPairs)) named
          ∙ sym (put_pairs_more l.invariant.0 p NoPairs),
    )

pub returns : goal.returns
returns g c =
    gave _ _ _ (Gives c.loop-name.invariant.0, rw (take_whole c.args.names.now c.loop-name.name-index c.loop-name-test.false) at c.loop-name.invariant.1, ap Gives c.loop-name.invariant.2)

pub rest_value-requires : goal.rest_value-requires
unfolding no_name
rest_value-requires g c = λ n e. c.requires n (rw e (among_names c.args.names.now c.loop-name.name-index no_name (omega arith)))
