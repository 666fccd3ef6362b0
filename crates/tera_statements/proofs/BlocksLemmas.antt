-- Reading blocks and the definitions of components.
use Rattle.std.proofs.Common.{◌≡◌, true, false, not, ◌∷◌, Option, refl, ap, ◌∙◌}
use Rattle.tera_base.specs.declared.utils.Span.{Span}
use Rattle.tera_lexer.specs.grammar.Tokens.{Items}
use Rattle.tera_grammar.specs.Reads.{found, stopped, ◌>>=◌, Takes}
use Rattle.tera_grammar.specs.expressions.Reading.Front.{taken_name}
use Rattle.tera_grammar.specs.statements.Components.{Head}
use Rattle.tera_grammar.specs.statements.Expressions.{Limits}
use Rattle.tera_grammar.specs.statements.Grammar.{Body, Item, Block, Define, InBlock, InComponent, Path, is_outermost, may_block, text_if_any}
use Rattle.tera_grammar.specs.statements.Names.{agrees}
use Rattle.tera_grammar.specs.statements.TagParts.{AtEndBlock, Edge, Name, Tag}
use Rattle.tera_grammar.specs.statements.Places.{block_placed, component_placed}
use Rattle.tera_grammar.specs.statements.Reading.{Place, Reader, Reads, at, block_end, block_of, component_def_of}
use Rattle.tera_grammar.specs.statements.Reading.Components.{Opened, ending_of, opened_of}
use Rattle.tera_grammar.specs.statements.Reading.Meeting.{Located, Seen, locate, met, ◌having◌}
use Rattle.tera_grammar.specs.statements.Reading.TagParts.{closed, finish_of, name_if_any, tag}
use Rattle.tera_statements.specs.Blocks.{new_block_of}
use Rattle.tera_expect.proofs.Steps.{kept_by}

-- the names with that of one block more
pub block_kept : (seen : Seen) (more : Located) (n : Name) → more ≡ locate n seen.blocks
    → record { blocks = more; components = seen.components; parameters = seen.parameters } ≡ (seen having block_placed n)
block_kept seen more n h = λ i. record { blocks = h i; components = seen.components; parameters = seen.parameters }

module _ (self : Reader) (path : Path) (start : Edge) (first : Span) (seen : Seen) (ts : Items) where
  abbrev after_name : Name × Items → Reads Item
  after_name n =
      finish_of n.1 >>= λ f. self (InBlock ∷ path) (at (seen having block_placed n.0) f.1) >>= λ b. block_end n.0 b.1.tokens >>= λ e.
      found (Block (tag start first f.0) n.0 b.0 e.0.0 e.0.1, at b.1.seen e.1)

  pub barred : may_block path ≡ false → block_of self path start first seen ts ≡ stopped ts
  unfolding block_of
  barred h = rw h refl

  block_is : may_block path ≡ true → block_of self path start first seen ts ≡ (new_block_of (met seen.blocks) ts >>= after_name)
  unfolding block_of
  block_is h = rw h (kept_by (taken_name ts) (λ (n : Name × Items). n.1) (λ n. not (met seen.blocks n.0.text)) after_name)

  module _ (may : may_block path ≡ true) where
    pub block_unnamed : (z : Items) → new_block_of (met seen.blocks) ts ≡ stopped z → block_of self path start first seen ts ≡ stopped z
    block_unnamed z h = block_is may ∙ ap (λ o. o >>= after_name) h

    module _ (n : Name) (us : Items) (named : new_block_of (met seen.blocks) ts ≡ found (n, us)) where
      block_named_so : block_of self path start first seen ts ≡ after_name (n, us)
      block_named_so = block_is may ∙ ap (λ o. o >>= after_name) named

      pub block_unfinished : (z : Items) → finish_of us ≡ stopped z → block_of self path start first seen ts ≡ stopped z
      block_unfinished z h = block_named_so ∙ rw h refl

      module _ (f : Edge) (vs : Items) (ended : finish_of us ≡ found (f, vs)) where
        pub block_empty : (z : Items) → self (InBlock ∷ path) (at (seen having block_placed n) vs) ≡ stopped z → block_of self path start first seen ts ≡ stopped z
        block_empty z h = block_named_so ∙ rw (ended, h) refl

        module _ (b : Body) (p : Place) (inside : self (InBlock ∷ path) (at (seen having block_placed n) vs) ≡ found (b, p)) where
          pub block_unclosed : (z : Items) → block_end n p.tokens ≡ stopped z → block_of self path start first seen ts ≡ stopped z
          block_unclosed z h = block_named_so ∙ rw (ended, inside, h) refl

          pub block_given : (e : Tag × Option Name) (ws : Items) → block_end n p.tokens ≡ found (e, ws)
              → block_of self path start first seen ts ≡ found (Block (tag start first f) n b e.0 e.1, at p.seen ws)
          block_given e ws h = block_named_so ∙ rw (ended, inside, h) refl

module _ (l : Limits) (self : Reader) (path : Path) (start : Edge) (first : Span) (seen : Seen) (ts : Items) where
  pub nested : is_outermost path ≡ false → component_def_of l self path start first seen ts ≡ stopped ts
  unfolding component_def_of
  nested h = rw h refl

  module _ (may : is_outermost path ≡ true) where
    pub unopened : (z : Items) → opened_of l (met seen.components) ts ≡ stopped z → component_def_of l self path start first seen ts ≡ stopped z
    unfolding component_def_of
    unopened z h = rw (may, h) refl

    module _ (o : Opened) (us : Items) (open_tag : opened_of l (met seen.components) ts ≡ found (o, us)) where
      pub definition_empty : (z : Items) → self (InComponent ∷ path) (at (seen having component_placed o.name o.parameters) us) ≡ stopped z → component_def_of l self path start first seen ts ≡ stopped z
      unfolding component_def_of
      definition_empty z h = rw (may, open_tag, h) refl

      module _ (b : Body) (p : Place) (inside : self (InComponent ∷ path) (at (seen having component_placed o.name o.parameters) us) ≡ found (b, p)) where
        pub definition_unclosed : (z : Items) → ending_of start first o p.tokens ≡ stopped z → component_def_of l self path start first seen ts ≡ stopped z
        unfolding component_def_of
        definition_unclosed z h = rw (may, open_tag, inside, h) refl

        pub definition_given : (h : Head) (ws : Items) → ending_of start first o p.tokens ≡ found (h, ws)
            → component_def_of l self path start first seen ts ≡ found (Define h b, at p.seen ws)
        unfolding component_def_of
        definition_given h ws read = rw (may, open_tag, inside, read) refl

-- the closing tag of a block
module _ (n : Name) (ts us : Items) (x : Edge × Span) (there : closed AtEndBlock ts ≡ found (x, us)) where
  module _ (end : Option Name) (vs : Items) (named : name_if_any us ≡ found (end, vs)) where
    abbrev last_step : Edge × Items → Takes (Tag × Option Name)
    last_step f = found ((tag x.0 x.1 f.0, end), f.1)

    pub renamed : agrees n.text (text_if_any end) ≡ false → block_end n ts ≡ stopped vs
    unfolding block_end
    renamed h = rw (there, named, h) refl

    pub ends_as : agrees n.text (text_if_any end) ≡ true → block_end n ts ≡ (finish_of vs >>= last_step)
    unfolding block_end
    ends_as h = rw (there, named, h) refl

pub unclosed_block : (n : Name) (ts z : Items) → closed AtEndBlock ts ≡ stopped z → block_end n ts ≡ stopped z
unfolding block_end
unclosed_block n ts z h = rw h refl
