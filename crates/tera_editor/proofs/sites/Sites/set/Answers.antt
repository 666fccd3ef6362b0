use Rattle.std.proofs.Common.{◌∙◌, MatchOption, Some, cond, length, sym, ap, subst}
use Rattle.std.specs.Str.{bytes_eq}
use Rattle.tera_editor.specs.Sites.{IsGiven, IsNumbered, NoneBefore}
use Rattle.tera_editor.proofs.SiteLemmas.{EachBelow, new_given, push_all, push_found, set_all, set_found, sited_found, sited_new}
use Rattle.tera_editor.proofs.sites.Sites.set.Goals as goal

pub returns-in-Some-clause-set : goal.returns-in-Some-clause-set
returns-in-Some-clause-set c = λ f.
    let folder = c.args.folder.now in
    let xs = c.args.self.now.all.items in
    let y = c.in_ok-new.new in
    let is : IsNumbered folder xs c.in-Some.number = subst (λ r. MatchOption r (NoneBefore folder xs (length xs)) (IsNumbered folder xs)) c.in-Some.is c.number_of.ensures in
    set_found f folder xs c.in-Some.number y is c.in_ok-new.ensures.folder ∙ ap (λ s. cond (bytes_eq folder f) (Some s) (sited_found f xs)) (sited_new y c.args.root.now c.in_ok-new.ensures.site c.in_ok-new.ensures.none)

pub returns-in-Some-clause-given : goal.returns-in-Some-clause-given
returns-in-Some-clause-given c = λ g.
    let folder = c.args.folder.now in
    let xs = c.args.self.now.all.items in
    let is : IsNumbered folder xs c.in-Some.number = subst (λ r. MatchOption r (NoneBefore folder xs (length xs)) (IsNumbered folder xs)) c.in-Some.is c.number_of.ensures in
    set_all IsGiven xs c.in-Some.number c.in_ok-new.new is.within g (new_given c.in_ok-new.new c.args.root.now c.in_ok-new.ensures.site c.in_ok-new.ensures.none)

pub returns-in_ok-push-in-None-clause-set : goal.returns-in_ok-push-in-None-clause-set
returns-in_ok-push-in-None-clause-set c = λ f.
    let folder = c.args.folder.now in
    let xs = c.args.self.now.all.items in
    let y = c.in_ok-new.new in
    let none : NoneBefore folder xs (length xs) = subst (λ r. MatchOption r (NoneBefore folder xs (length xs)) (IsNumbered folder xs)) c.in-None.is c.number_of.ensures in
    ap (sited_found f) c.in_ok-push-in-None.ensures.items
    ∙ push_found f folder xs c.in_ok-new.new none c.in_ok-new.ensures.folder
    ∙ ap (λ s. cond (bytes_eq folder f) (Some s) (sited_found f xs)) (sited_new y c.args.root.now c.in_ok-new.ensures.site c.in_ok-new.ensures.none)

pub returns-in_ok-push-in-None-clause-given : goal.returns-in_ok-push-in-None-clause-given
returns-in_ok-push-in-None-clause-given c = λ g.
    let xs = c.args.self.now.all.items in
    subst (λ ys. EachBelow IsGiven (length ys) ys) (sym c.in_ok-push-in-None.ensures.items)
    (push_all IsGiven xs c.in_ok-new.new g (new_given c.in_ok-new.new c.args.root.now c.in_ok-new.ensures.site c.in_ok-new.ensures.none))
