-- What is written for an expression in a source is read, within the limits of the expression, as that expression,
-- apart from places.
use Rattle.std.proofs.Common.{◌≡◌, ℕ, List, Bool, false, ap, ◌∙◌}
use Rattle.tera_lexer.specs.grammar.Marks.{Marks}
use Rattle.tera_lexer.specs.grammar.Tokens.{Items, Ended}
use Rattle.tera_grammar.specs.Limits.{Limits}
use Rattle.tera_grammar.specs.expressions.Concrete.{Tree, yield}
use Rattle.tera_grammar.specs.expressions.Conditions.{IsExpression}
use Rattle.tera_grammar.specs.expressions.Measures.{Within}
use Rattle.tera_grammar.specs.expressions.Output.{output}
use Rattle.tera_grammar.specs.expressions.Ends.{IsStop}
use Rattle.tera_grammar.specs.Reads.{found}
use Rattle.tera_grammar.specs.expressions.Reading.Whole.{expression_of}
use Rattle.tera_grammar.proofs.expressions.Fronts.{ends_stop}
use Rattle.tera_grammar.proofs.Readings.{expression_read}
use Rattle.tera_source.specs.Source.{source_tree}
use Rattle.tera_source.specs.Placeless.{placeless}
use Rattle.tera_spelling.specs.Sources.{AreReadAs}
use Rattle.tera_source.specs.InSources.{IsInSource}
use Rattle.tera_source.proofs.WrittenOutputs.{source_bound}
use Rattle.tera_source.proofs.Fewer.{source_within}
use Rattle.tera_source.proofs.Backs.{source_output}
use Rattle.tera_source.proofs.InSources.{stands_given}
use Rattle.tera_source.proofs.Places.{tree_at, tree_tokens, placed}
use Rattle.tera_source.proofs.SameMeasures.{within_same}
use Rattle.tera_source.proofs.SameOutput.{output_same}
use Rattle.tera_source.proofs.SameConditions.{bound_same}

-- tokens that are read as those of an expression are those of one at other places
pub record Moved (limits : Limits) (e : Tree) (read rest : Items) : Type 0 where
  pub tree : Tree
  pub tokens : read ≡ yield tree rest
  pub bound : IsExpression false tree
  pub within : Within limits tree
  pub same : placeless (output false tree) ≡ placeless (output false e)

pub moved : (limits : Limits) (e : Tree) (read rest : Items) → IsExpression false e → Within limits e →
    AreReadAs (yield e Ended) rest read → Moved limits e read rest
moved limits e read rest is within h =
    let p = placed (yield e Ended) rest read h in record {
      tree = tree_at p.at e Ended;
      tokens = p.is ∙ tree_tokens p.at rest e Ended;
      bound = bound_same p.at false e Ended is;
      within = within_same p.at limits e Ended within;
      same = output_same p.at false e Ended;
    }

module _ (m : Marks) (source : List ℕ) (limits : Limits) (l : Bool) (e : Tree) (sound : IsInSource m source e) (is : IsExpression l e) (small : Within limits e) where
  pub stands_within : Within limits (source_tree (output l e))
  stands_within = source_within limits l e (stands_given m source e sound) is small

  -- it is read from them, and is the same
  pub reads_back : (read rest : Items) → AreReadAs (yield (source_tree (output l e)) Ended) rest read → IsStop rest →
      (t : Tree) × (expression_of limits false read ≡ found (t, rest)) × Within limits t × (placeless (output false t) ≡ placeless (output l e))
  reads_back read rest h stop =
      let x = moved limits (source_tree (output l e)) read rest (source_bound l e is) stands_within h in (
        x.tree,
        ap (expression_of limits false) x.tokens ∙ expression_read limits false x.tree rest x.bound x.within (ends_stop rest stop),
        x.within,
        x.same ∙ source_output l e is,
      )
