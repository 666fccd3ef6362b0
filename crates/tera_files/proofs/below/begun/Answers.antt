use Rattle.std.proofs.Common.{[], ◌++◌, ◌∷◌, ◌∙◌, ap, sym, subst, string_bytes}
use Rattle.std.proofs.lemmas.List.Elements.{All-nil, All-push, All-same}
use Rattle.tera_files.specs.Below.{IsKnownTemplate, IsUnlisted, path_of}
use Rattle.tera_files.specs.Paths.{IsKnown, IsTemplate, top_is_known}
use Rattle.tera_files.specs.declared.below.Folder.{Folder}
use Rattle.tera_files.specs.declared.below.Template.{Template}
use Rattle.tera_files.proofs.below.begun.Goals as goal

pub returns : goal.returns
returns g c = λ extensions.
    let top = c.args.top.now in
    let itself = string_bytes c.in_ok-itself.itself in
    let Is : Folder → Type 0 = λ folder. IsKnown top itself (string_bytes folder.path) (string_bytes folder.itself) in
    let IsHere : Template → Type 0 = λ template. IsTemplate extensions top (path_of template) in
    let folder : Folder = record { path = c.in_ok-path.path; itself = c.in_ok-itself.itself } in
    let here : Is folder = subst (λ path. IsKnown top itself path itself) (sym c.in_ok-path.ensures.ok) top_is_known in
    let one = c.in_ok-push.ensures.items ∙ ap (λ l. l ++ folder ∷ []) c.new-folders.ensures.items in (
      itself,
      record {
        templates = All-same IsHere c.new-templates.result.items [] c.new-templates.ensures.items (All-nil IsHere);
        known = All-same (IsKnownTemplate top itself) c.new-templates.result.items [] c.new-templates.ensures.items (All-nil (IsKnownTemplate top itself));
        unlisted = All-same (IsUnlisted top) c.new-unlisted.result.items [] c.new-unlisted.ensures.items (All-nil (IsUnlisted top));
        folders = All-same Is c.push.new.self.items (folder ∷ []) one (All-push Is [] folder (All-nil Is) here);
      },
    )
