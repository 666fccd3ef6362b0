-- Texts whose first bytes are in the place of those of a source.
use Rattle.std.proofs.Common.{◌≡◌, ◌++◌, ◌∙◌, ℕ, List, [], ◌∷◌, append_assoc, append-nil, refl, sym, subst, ap, ⊎_elim}
use Rattle.tera_lexer.specs.grammar.Marks.{Marks}
use Rattle.tera_grammar.specs.Limits.{Limits}
use Rattle.tera_mend.specs.Mending.{EditVal, Edits, Goes, Mends, Puts, Step}
use Rattle.tera_mend.specs.Places.{AreInPlace, Keeps}
use Rattle.tera_mend.proofs.InPlace.{itself, joined, through}

pub all_kept : (old new : List ℕ) → AreInPlace old new → Keeps old new
all_kept old new are = (new, [], sym (append-nil new), are)

-- what is in the place of two texts is two
parted : (one other new : List ℕ) → AreInPlace (one ++ other) new → Keeps one new
parted [] other new are = ([], new, refl, tt)
parted (b ∷ bs) other [] are = absurd are
parted (b ∷ bs) other (c ∷ cs) are =
    let (front, after, is, here) = parted bs other cs are.1 in
    (c ∷ front, after, ap (λ cs. c ∷ cs) is, (are.0, here))

pub then : (old mid new : List ℕ) → Keeps old mid → Keeps mid new → Keeps old new
then old mid new (front, after, is, are) (all, rest, was, more) =
    let (ahead, left, parts, here) = parted front after all (subst (λ t. AreInPlace t all) is more) in
    (ahead, left ++ rest, was ∙ ap (λ t. t ++ rest) parts ∙ append_assoc ahead left rest, through old front ahead are here)

put_keeps : (e : EditVal) (old new : List ℕ) → Puts e old new → Keeps old new
put_keeps e old new put =
    ⊎_elim
    (λ are. subst (λ t. Keeps t new) (sym put.is_old) (subst (λ t. Keeps (put.before ++ (put.taken ++ put.after)) t) (sym put.is_new)
    (all_kept _ _ (joined put.before put.before _ _ (itself put.before) (joined put.taken e.bytes put.after put.after are (itself put.after))))))
    (λ none.
    let is : old ≡ put.before = put.is_old ∙ ap (λ t. put.before ++ (t ++ put.after)) none.0 ∙ ap (λ t. put.before ++ t) none.1 ∙ append-nil put.before in
    (put.before, e.bytes ++ put.after, put.is_new, subst (λ t. AreInPlace t put.before) (sym is) (itself put.before)))
    put.in_place

pub edits_keep : (es : List EditVal) (old new : List ℕ) → Edits es old new → Keeps old new
edits_keep [] old new is = subst (Keeps old) is (all_kept old old (itself old))
edits_keep (e ∷ es) old new (next, put, rest) = then old next new (put_keeps e old next put) (edits_keep es next new rest)

goes_keep : (l : Limits) (m : Marks) (ss : List Step) (source text : List ℕ) → Goes l m source ss text → Keeps source text
goes_keep l m [] source text is = subst (Keeps source) is (all_kept source source (itself source))
goes_keep l m (s ∷ ss) source text (fails, (next, edits, rest)) = then source next text (edits_keep s.edits source next edits) (goes_keep l m ss next text rest)

pub mends_keep : (l : Limits) (m : Marks) (ss : List Step) (source text : List ℕ) → Mends l m source ss text → Keeps source text
mends_keep l m ss source text mends = goes_keep l m ss source text mends.1
