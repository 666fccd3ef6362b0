use Rattle.std.proofs.Common.{◌++◌, ◌∷◌, [], Some, sym, subst, string_bytes}
use Rattle.std.proofs.lemmas.List.Elements.{All-push, All-same}
use Rattle.tera_files.specs.Below.{IsKnownTemplate, IsUnlisted, path_of}
use Rattle.tera_files.specs.Names.{EndsIn, IsLeftOut, texts}
use Rattle.tera_files.specs.Paths.{IsKnown, IsTemplate, inside, known_inside}
use Rattle.tera_files.specs.Seen.{IsPlace}
use Rattle.tera_files.specs.declared.below.Folder.{Folder}
use Rattle.tera_files.specs.declared.below.Template.{Template}
use Rattle.tera_files.specs.declared.finding.Unlisted.{Unlisted}
use Rattle.tera_files.proofs.BelowLemmas.{within_of, known_entry}
use Rattle.tera_files.proofs.below.add_entry.Goals as goal

pub returns-in_ok-push-in-Folders-clause-kept : goal.returns-in_ok-push-in-Folders-clause-kept
returns-in_ok-push-in-Folders-clause-kept c = λ top itself is are.
    let Is : Folder → Type 0 = λ folder. IsKnown top itself (string_bytes folder.path) (string_bytes folder.itself) in
    let name = c.as_str-name.result.now in
    let path = string_bytes c.in_ok-path-in-Folders.path in
    let folder : Folder = record { path = c.in_ok-path-in-Folders.path; itself = c.in_ok-itself-in-Folders.itself } in
    let place = subst (IsPlace (texts c.args.extensions.now) c.args.entry.now) c.in-Folders.is c.place.ensures in
    let kept : ¬ (IsLeftOut name) = subst (λ n. ¬ (IsLeftOut n)) (sym c.as_str-name.ensures.value) place.1 in
    let here : Is folder = subst (IsKnown top itself path) (sym c.in_ok-itself-in-Folders.ensures) (known_inside name path is kept c.in_ok-path-in-Folders.ensures) in
    record {
      templates = are.templates;
      known = are.known;
      folders = All-same Is c.push.new.self.items (c.args.below.now.folders.items ++ folder ∷ []) c.in_ok-push-in-Folders.ensures.items (All-push Is c.args.below.now.folders.items folder are.folders here);
      unlisted = are.unlisted;
    }

pub returns-in_ok-push-in-Templates-clause-kept : goal.returns-in_ok-push-in-Templates-clause-kept
returns-in_ok-push-in-Templates-clause-kept c = λ top itself is are.
    let Is : Template → Type 0 = λ template. IsTemplate (texts c.args.extensions.now) top (path_of template) in
    let name = c.as_str-name.result.now in
    let path = string_bytes c.in_ok-path-in-Templates.path in
    let template : Template = record { path = c.in_ok-path-in-Templates.path; itself = c.in_ok-itself-in-Templates.itself } in
    let place = subst (IsPlace (texts c.args.extensions.now) c.args.entry.now) c.in-Templates.is c.place.ensures in
    let kept : ¬ (IsLeftOut name) = subst (λ n. ¬ (IsLeftOut n)) (sym c.as_str-name.ensures.value) place.1.0 in
    let ends : EndsIn name (texts c.args.extensions.now) = subst (λ n. EndsIn n (texts c.args.extensions.now)) (sym c.as_str-name.ensures.value) place.1.1 in
    let here : Is template = record {
      folder = string_bytes c.args.folder.now.path;
      name = name;
      within = within_of top itself (string_bytes c.args.folder.now.path) (string_bytes c.args.folder.now.itself) is;
      reported = c.in_ok-path-in-Templates.ensures;
      kept = kept;
      ends = ends;
    } in
    let known : IsKnownTemplate top itself template = known_entry top itself (string_bytes c.args.folder.now.path)
    (string_bytes c.args.folder.now.itself) name path c.in_ok-itself-in-Templates.itself is kept c.in_ok-path-in-Templates.ensures c.in_ok-itself-in-Templates.ensures in
    let following = c.in_ok-push-in-Templates.ensures.items in
    let all = c.args.below.now.templates.items in
    record {
      templates = All-same Is c.push-in-Templates.new.self.items (all ++ template ∷ []) following (All-push Is all template are.templates here);
      known = All-same (IsKnownTemplate top itself) c.push-in-Templates.new.self.items (all ++ template ∷ []) following (All-push (IsKnownTemplate top itself) all template are.known known);
      folders = are.folders;
      unlisted = are.unlisted;
    }

pub returns-in_ok-push-in-Unlisted-clause-kept : goal.returns-in_ok-push-in-Unlisted-clause-kept
returns-in_ok-push-in-Unlisted-clause-kept c = λ top itself is are.
    let name = c.as_str-name.result.now in
    let folder = c.in_ok-folder-in-Unlisted.folder in
    let place = subst (IsPlace (texts c.args.extensions.now) c.args.entry.now) c.in-Unlisted.is c.place.ensures in
    let kept : ¬ (IsLeftOut name) = subst (λ n. ¬ (IsLeftOut n)) (sym c.as_str-name.ensures.value) place.1.0 in
    let within = within_of top itself (string_bytes c.args.folder.now.path) (string_bytes c.args.folder.now.itself) is in
    let one : Unlisted = record { folder = folder; error = Some c.new.result } in
    let here : IsUnlisted top one = inside name (string_bytes folder) within kept c.in_ok-folder-in-Unlisted.ensures in
    let all = c.args.below.now.unlisted.items in
    record {
      templates = are.templates;
      known = are.known;
      folders = are.folders;
      unlisted = All-same (IsUnlisted top) c.push-in-Unlisted.new.self.items (all ++ one ∷ []) c.in_ok-push-in-Unlisted.ensures.items (All-push (IsUnlisted top) all one are.unlisted here);
    }
