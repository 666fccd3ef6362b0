use Rattle.std.proofs.Common.{◌≡◌, ◌∙◌, ap, not, Some}
use Rattle.std.specs.Prelude.{◌&&◌}
use Rattle.tera_site.specs.Kept.{is_one_of, kept_around, names_in, on_page}
use Rattle.tera_site.specs.Named.{lacks}
use Rattle.tera_site.specs.Sites.{used_names}
use Rattle.tera_site.specs.Views.{around_view, page_view}
use Rattle.tera_site.proofs.kept.Surroundings.of.Goals as goal

pub returns : goal.returns
returns c =
    let a = around_view c.args.around in
    λ i. record {
      has = λ n. (c.in_ok-there.ensures n ∙ ap (λ ns. is_one_of ns n && a.has n) c.in_ok-used.ensures) i;
      extends_itself = c.extends_itself.ensures i;
      comes_back = λ n. c.in_ok-back.ensures n i;
      inherited = Some (λ n. not (c.in_ok-lacking.ensures n i));
    }
