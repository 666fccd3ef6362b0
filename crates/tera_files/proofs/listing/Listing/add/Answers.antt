use Rattle.std.proofs.Common.{◌≡◌, ◌∙◌, false, not, true, string_bytes, ⊎_elim, ap, subst, sym}
use Rattle.std.proofs.lemmas.Bool.{false≢true}
use Rattle.std.proofs.lemmas.Map.Text.{btree_set_updates_text}
use Rattle.std.specs.BTreeSet.{contains, contains_text}
use Rattle.std.specs.String.{string_cmp}
use Rattle.tera_files.proofs.listing.Listing.add.Goals as goal

pub returns-else-branch-clause-started : goal.returns-else-branch-clause-started
returns-else-branch-clause-started c = λ started.
    ⊎_elim
    (λ some. some)
    (λ none.
    let new : contains string_cmp c.args.self.now.known c.args.itself ≡ false = none (string_bytes c.args.itself) in
    let added = rw new at c.in_ok-insert.ensures.added in
    cc)
    started

pub returns-in_ok-add_path-clause-file : goal.returns-in_ok-add_path-clause-file
returns-in_ok-add_path-clause-file c =
    let itself = string_bytes c.args.itself in
    let known = c.args.self.now.known in
    let fresh : not (contains string_cmp known c.args.itself) ≡ true = sym c.in_ok-insert.ensures.added ∙ c.if-branch.true in
    let absent : contains_text known itself ≡ true → false ≡ true = λ was. subst (λ b. not b ≡ true) was fresh in
    record {
      again = λ was. absurd (false≢true (absent was));
      first = λ was. c.in_ok-add_path.ensures.files;
      met = λ other. ap (λ k. contains_text k other) c.in_ok-add_path.ensures.known
          ∙ btree_set_updates_text itself known c.insert.new.self true c.in_ok-insert.ensures.updates other;
    }
