use Rattle.std.proofs.Common.{◌≡◌, ◌++◌}
use Rattle.std.specs.List.{flat_map}
use Rattle.tera_tree.specs.Outputs.{output_view}
use Rattle.tera_tree.specs.Parts.{parts_view}
use Rattle.tera_rules.specs.Within.{all_parts, parts_of}
use Rattle.tera_site.specs.Pages.{block_name, included}
use Rattle.tera_site.specs.Views.{names_of}
use Rattle.tera_site.proofs.pages.put_names.Given as goal

abbrev pub invariant-loop-part : goal.invariant-loop-part
invariant-loop-part l = record {
  includes : names_of l.includes.items ++ flat_map included (all_parts (parts_view l.left.items))
      ≡ names_of l.fn.includes.items ++ flat_map included (parts_of (output_view l.output));
  blocks : names_of l.blocks.items ++ flat_map block_name (all_parts (parts_view l.left.items))
      ≡ names_of l.fn.blocks.items ++ flat_map block_name (parts_of (output_view l.output));
}
