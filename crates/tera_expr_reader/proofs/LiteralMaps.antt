-- Maps of constants, as they are read.
use Rattle.std.proofs.Common.{◌≡◌, false, Option, Some, None, refl, sym, ap, ◌∙◌}
use Rattle.std.proofs.lemmas.Option.{same_Some}
use Rattle.tera_base.specs.Values as values
use Rattle.tera_base.specs.Values.{Val, Pairs, NoPairs}
use Rattle.tera_base.specs.declared.utils.Span.{Span}
use Rattle.tera_base.specs.declared.errors.Error.{Error}
use Rattle.tera_lexer.specs.grammar.Tokens.{Items}
use Rattle.tera_ast.specs.Tree as tree
use Rattle.tera_grammar.specs.Limits.{Limits}
use Rattle.tera_grammar.specs.expressions.Companions.{Opened}
use Rattle.tera_grammar.specs.expressions.Concrete.{Tree, Atomic, Map, Row, of_entries}
use Rattle.tera_grammar.specs.expressions.Marks.{LeftBrace}
use Rattle.tera_grammar.specs.expressions.Output.{constant_entries, entries_output, map_made, output}
use Rattle.tera_grammar.specs.Reads.{found, stopped, ◌>>=◌, given, Takes, Fails}
use Rattle.tera_grammar.specs.expressions.Reading.Front.{Place, at, Reads, takes}
use Rattle.tera_grammar.specs.expressions.Reading.Bracketed.{row_of}
use Rattle.tera_grammar.specs.expressions.Reading.Atoms.{map_of}
use Rattle.tera_grammar.specs.expressions.Reading.Whole.{widest, outermost, left_over, valued, map_if_constant, map_after, literal_map_of}
use Rattle.tera_grammar.proofs.stops.Fronts.{found_same}
use Rattle.tera_expr_parts.specs.Folding.{constant_of}
use Rattle.tera_expr_reader.proofs.RowsLemmas.{fails_by}

-- an opening mark and a row
abbrev pub opened : Span → Row → Opened
opened s r = record { mark = s; row = r }

-- the value that a map is, if it is one
constant_map : (es : tree.Entries) (span : Span) (o : Option Pairs) (v : Val) → Some v ≡ constant_of (map_made es span o) → (ps : Pairs) × (o ≡ Some ps) × (v ≡ values.Map ps)
constant_map es span None v h = cc
constant_map es span (Some ps) v h = (ps, refl, same_Some v (values.Map ps) h)

no_constant_map : (es : tree.Entries) (span : Span) (o : Option Pairs) → None ≡ constant_of (map_made es span o) → o ≡ None
no_constant_map es span None h = refl
no_constant_map es span (Some ps) h = cc

-- a map, where its row is read
abbrev tree_from : Span → Reads Row → Reads Tree
tree_from first o = o >>= λ r. found (Atomic (Map first r.0), r.1)

no_row : (first : Span) (o : Reads Row) (z : Items) → tree_from first o ≡ stopped z → o ≡ stopped z
no_row first (stopped y) z h = let e : y ≡ z = cc in ap stopped e
no_row first (found r) z h = cc

row_found : (first : Span) (o : Reads Row) (x : Tree × Place) → tree_from first o ≡ found x → (r : Row) × (o ≡ found (r, x.1)) × (x.0 ≡ Atomic (Map first r))
row_found first (stopped z) x h = cc
row_found first (found r) x h =
    let same : (Atomic (Map first r.0), r.1) ≡ x = found_same _ _ h in
    (r.0, ap (λ (z : Tree × Place). found (r.0, z.1)) same, sym (ap (λ (z : Tree × Place). z.0) same))

-- Maps of constants.
module _ (limits : Limits) where
  abbrev map_from : Span → Reads Row → Takes (Opened × Pairs)
  map_from s o = left_over (o >>= λ r. given r.1.tokens (map_if_constant s r.0) >>= λ m. found (m, r.1))

  abbrev map_valued : Span → Row → Place → Option Pairs → Takes (Opened × Pairs)
  map_valued s r q o = left_over (given q.tokens (valued (opened s r) o) >>= λ m. found (m, q))

  pub no_brace : (old left : Items) (e : Error) → Fails (takes LeftBrace old) left e → Fails (literal_map_of limits old) left e
  unfolding literal_map_of
  no_brace old left e h = fails_by (literal_map_of limits old) (takes LeftBrace old) left e (λ z none. ap (λ o. o >>= λ s. map_after limits s.0 s.1) none) h

  module _ (old mid : Items) (s : Span) (h : takes LeftBrace old ≡ found (s, mid)) where
    after_brace : (o : Reads Row) → row_of (outermost limits) (widest limits false) of_entries (at 0 mid) ≡ o → literal_map_of limits old ≡ map_from s o
    unfolding literal_map_of map_after
    after_brace o read = ap (λ o. o >>= λ s. map_after limits s.0 s.1) h ∙ ap (map_from s) read

    pub map_fails : (first : Span) (left : Items) (e : Error) → Fails (map_of (outermost limits) (widest limits false) first (at 0 mid)) left e → Fails (literal_map_of limits old) left e
    unfolding map_of
    map_fails first left e fails =
        fails_by (literal_map_of limits old) (map_of (outermost limits) (widest limits false) first (at 0 mid)) left e
        (λ z none. after_brace (stopped z) (no_row first (row_of (outermost limits) (widest limits false) of_entries (at 0 mid)) z none)) fails

    -- a map is read
    module _ (first : Span) (t : Tree) (q : Place) (read : map_of (outermost limits) (widest limits false) first (at 0 mid) ≡ found (t, q)) where
      row_read : (r : Row) × (row_of (outermost limits) (widest limits false) of_entries (at 0 mid) ≡ found (r, q)) × (t ≡ Atomic (Map first r))
      unfolding map_of
      row_read = row_found first (row_of (outermost limits) (widest limits false) of_entries (at 0 mid)) (t, q) read

      pub map_comes : (v : Val) → Some v ≡ constant_of (output false t) → (x : Opened × Pairs) × (literal_map_of limits old ≡ found (x, q.tokens)) × (v ≡ values.Map x.1)
      map_comes v is =
          let (r, row, made) = row_read in
          let whole = is ∙ ap (λ u. constant_of (output false u)) made in
          let (ps, value, same) = constant_map (entries_output false r) _ (constant_entries (entries_output false r) NoPairs) v whole in
          ((opened s r, ps), after_brace (found (r, q)) row ∙ ap (map_valued s r q) value, same)

      pub no_map_comes : None ≡ constant_of (output false t) → literal_map_of limits old ≡ stopped q.tokens
      no_map_comes is =
          let (r, row, made) = row_read in
          let whole = is ∙ ap (λ u. constant_of (output false u)) made in
          after_brace (found (r, q)) row ∙ ap (map_valued s r q) (no_constant_map (entries_output false r) _ (constant_entries (entries_output false r) NoPairs) whole)
