use Rattle.std.proofs.Common.{map, string_bytes, inr, sym, ◌∙◌, subst}
use Rattle.std.specs.Prelude.{Contains}
use Rattle.tera_files.specs.Below.{path_of}
use Rattle.tera_files.specs.Listing.{files_in}
use Rattle.tera_files.specs.Names.{texts}
use Rattle.tera_files.proofs.BelowLemmas.{some_templates, reports_none}
use Rattle.tera_files.proofs.FindingLemmas.{adds_itself, adds_key, ok_anyway, on_ok}
use Rattle.tera_files.proofs.ListingLemmas.{insert_key-has}
use Rattle.tera_files.proofs.finding.add.Goals as goal

pub returns-then-eq-clause-added : goal.returns-then-eq-clause-added
returns-then-eq-clause-added g c =
    on_ok c.add_path.result
    (adds_key (texts c.args.extensions.now) c.args.path.now (string_bytes c.in_ok-from_str.field-0) (files_in c.args.listing.now)
    (files_in c.add_path.new.self) c.in_ok-from_str.ensures.ok)
    c.add_path.ensures.files

pub returns-then-eq-clause-input_read : goal.returns-then-eq-clause-input_read
returns-then-eq-clause-input_read g c =
    let path = string_bytes c.in_ok-from_str.field-0 in
    on_ok c.add_path.result
    (λ is. λ named. subst (Contains (files_in c.add_path.new.self)) (c.in_ok-from_str.ensures.ok ∙ named)
    (subst (λ l. Contains l path) (sym is) (insert_key-has (files_in c.args.listing.now) path)))
    c.add_path.ensures.files

pub returns-then-not-is_folder-clause-added : goal.returns-then-not-is_folder-clause-added
returns-then-not-is_folder-clause-added g c =
    on_ok c.add_file.result
    (adds_itself (texts c.args.extensions.now) c.args.path.now (files_in c.args.listing.now) (files_in c.add_file.new.listing))
    c.add_file.ensures.added

pub returns-clause-added : goal.returns-clause-added
returns-clause-added g c =
    let paths = map path_of c.in_ok-templates.templates.items in
    let extensions = texts c.args.extensions.now in
    let all = c.in_ok-templates.ensures.templates in
    let part = c.in_ok-add_templates.ensures.some all.sorted in
    record {
      more = part.more;
      following = part.following;
      of_path = inr (some_templates extensions c.args.path.now paths (files_in c.args.listing.now) (files_in c.add_templates.new.listing) all part);
    }

pub returns-then-eq-clause-unlisted : goal.returns-then-eq-clause-unlisted
returns-then-eq-clause-unlisted g c = ok_anyway c.add_path.result (reports_none c.args.path.now c.args.unlisted.now.items)

pub returns-then-not-is_folder-clause-unlisted : goal.returns-then-not-is_folder-clause-unlisted
returns-then-not-is_folder-clause-unlisted g c = ok_anyway c.add_file.result (reports_none c.args.path.now c.args.unlisted.now.items)
