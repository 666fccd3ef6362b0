-- The top level, declared and read in order; whole templates.
use Rattle.std.proofs.Common.{◌≡◌, Bool, true, false, [], Option, Some, None, refl, sym, ap, subst, ◌∙◌, inl, inr, ⊎_elim}
use Rattle.std.proofs.lemmas.Option.{same_Some}
use Rattle.tera_base.specs.declared.utils.Span.{Span}
use Rattle.tera_lexer.specs.code.Cursors.{is_end}
use Rattle.tera_lexer.specs.grammar.Tokens.{Items, Ended, Failed, Token}
use Rattle.tera_grammar.specs.expressions.Concrete.{Quote}
use Rattle.tera_grammar.specs.Options.{◌>>=◌, guard}
use Rattle.tera_grammar.specs.statements.Reading.Meeting.{nothing_seen}
use Rattle.tera_grammar.specs.statements.TagParts.{Tag}
use Rattle.tera_grammar.specs.statements.Expressions.{Limits}
use Rattle.tera_grammar.specs.statements.Names.{NamesAreDistinct}
use Rattle.tera_grammar.specs.statements.Places.{places}
use Rattle.tera_grammar.specs.statements.Grammar.{Text, Shown, Set, Include, Extends, Break, Continue, Body, Done, Then, Item, Single, Block, Define, Capturing, For, If, yield}
use Rattle.tera_grammar.specs.statements.Reading.{at}
use Rattle.tera_grammar.specs.statements.Reading.Phases.{Phase, Starting, Standalone, Extending, after_text, from_start, next_phase}
use Rattle.tera_grammar.proofs.plain.statements.Reading.{body, phases, template}
use Rattle.tera_grammar.proofs.statements.Names.{names_distinct, names_new, same_names}
use Rattle.tera_grammar.specs.statements.Top.{is_blank, is_silent, is_kept, IsExtends, Each, join, Child, TopLevel, IsTemplate}
use Rattle.tera_grammar.proofs.Options.{bound, guard_ok}
use Rattle.tera_grammar.proofs.statements.Walks.{template_reads}
use Rattle.tera_grammar.proofs.statements.Found.{body_sound}
use Rattle.tera_grammar.proofs.statements.Complete.{whole}

-- what an item comes to at the start
data Start (i : Item) : Type 0 where
  by_parent : (t : Tag) (q : Quote) (span : Span) → i ≡ Single (Extends t q span) → Start i
  by_silence : is_silent i ≡ true → (IsExtends i → ⊥) → from_start i ≡ Starting → Start i
  by_others : (IsExtends i → ⊥) → from_start i ≡ Standalone → Start i

start_of : (i : Item) → Start i
start_of (Single (Extends t q span)) = by_parent t q span refl
start_of (Single (Text text span)) = goes (is_blank text) refl
  where
    goes : (b : Bool) → is_blank text ≡ b → Start (Single (Text text span))
    goes true is = by_silence is (λ h. h) (ap after_text is)
    goes false is = by_others (λ h. h) (ap after_text is)
start_of (Single (Shown a e b)) = by_others (λ h. h) refl
start_of (Single (Set g t n s e)) = by_others (λ h. h) refl
start_of (Single (Include t q span)) = by_others (λ h. h) refl
start_of (Single (Break t)) = by_others (λ h. h) refl
start_of (Single (Continue t)) = by_others (λ h. h) refl
start_of (Define h b) = by_silence refl (λ h. h) refl
start_of (Block t n b e m) = by_others (λ h. h) refl
start_of (Capturing c b) = by_others (λ h. h) refl
start_of (For t lp b o e) = by_others (λ h. h) refl
start_of (If t c b bs e) = by_others (λ h. h) refl

extending_ok : (b : Body) (ph : Phase) → phases Extending b ≡ Some ph → Each (λ i. is_kept i ≡ true) b
extending_ok Done ph h = tt
extending_ok (Then i b) ph h =
    bound _ _ _ h (λ r kept more. bound _ _ _ kept (λ u held made.
    (guard_ok _ u held, extending_ok b ph (subst (λ x. phases x b ≡ Some ph) (sym (same_Some _ _ made)) more))))

sound : (i : Item) (ph : Phase) → next_phase Standalone i ≡ Some ph → (IsExtends i → ⊥) × (ph ≡ Standalone)
sound (Single (Extends t q span)) ph h = cc
sound i ph h = (λ e. e, sym (same_Some _ _ h))

standalone_ok : (b : Body) (ph : Phase) → phases Standalone b ≡ Some ph → Each (λ i. IsExtends i → ⊥) b
standalone_ok Done ph h = tt
standalone_ok (Then i b) ph h =
    bound _ _ _ h (λ r kept more.
    let one = sound i r kept in
    (one.0, standalone_ok b ph (subst (λ x. phases x b ≡ Some ph) one.1 more)))

after_silence : (i : Item) (b : Body) → is_silent i ≡ true → (IsExtends i → ⊥) → TopLevel b → TopLevel (Then i b)
after_silence i b silent other top =
    ⊎_elim (λ (plain : Each (λ i. IsExtends i → ⊥) b). inl (other, plain))
    (λ (c : Child b). inr (record { before = Then i c.before; tag = c.tag; parent = c.parent; span = c.span; after = c.after; is = ap (Then i) c.is; silent = (silent, c.silent); kept = c.kept }))
    top

pub top_found : (b : Body) (ph : Phase) → phases Starting b ≡ Some ph → TopLevel b
top_found Done ph h = inl tt
top_found (Then i b) ph h = goes (start_of i) (top_found b ph)
  where
    goes : Start i → (phases Starting b ≡ Some ph → TopLevel b) → TopLevel (Then i b)
    goes (by_parent t q span is) again =
        inr (record { before = Done; tag = t; parent = q; span = span; after = b; is = ap (λ j. Then j b) is; silent = tt; kept = extending_ok b ph (subst (λ j. phases (from_start j) b ≡ Some ph) is h) })
    goes (by_silence silent other is) again = after_silence i b silent other (again (subst (λ x. phases x b ≡ Some ph) is h))
    goes (by_others other is) again = inl (other, standalone_ok b ph (subst (λ x. phases x b ≡ Some ph) is h))

extending_read : (b : Body) → Each (λ i. is_kept i ≡ true) b → phases Extending b ≡ Some Extending
extending_read Done h = refl
extending_read (Then i b) h = rw (h.0, extending_read b h.1) refl

stands_on : (i : Item) → (IsExtends i → ⊥) → next_phase Standalone i ≡ Some Standalone
stands_on (Single (Extends t q span)) h = absurd (h tt)
stands_on i h = refl

standing_read : (b : Body) → Each (λ i. IsExtends i → ⊥) b → phases Standalone b ≡ Some Standalone
standing_read Done h = refl
standing_read (Then i b) h = rw (stands_on i h.0, standing_read b h.1) refl

plain_read : (b : Body) → Each (λ i. IsExtends i → ⊥) b → (ph : Phase) × (phases Starting b ≡ Some ph)
plain_read Done h = (Starting, refl)
plain_read (Then i b) h = goes (start_of i) (plain_read b h.1)
  where
    goes : Start i → (ph : Phase) × (phases Starting b ≡ Some ph) → (ph : Phase) × (phases Starting (Then i b) ≡ Some ph)
    goes (by_parent t q span is) more = absurd (h.0 (subst IsExtends (sym is) tt))
    goes (by_silence silent other is) more = (more.0, ap (λ x. phases x b) is ∙ more.1)
    goes (by_others other is) more = (Standalone, ap (λ x. phases x b) is ∙ standing_read b h.1)

silent_starts : (i : Item) → is_silent i ≡ true → from_start i ≡ Starting
silent_starts (Single (Text text span)) h = ap after_text h
silent_starts (Define head b) h = refl
silent_starts _ h = cc

child_read : (before : Body) (t : Tag) (q : Quote) (span : Span) (after : Body) → Each (λ i. is_silent i ≡ true) before → Each (λ i. is_kept i ≡ true) after
    → phases Starting (join before (Then (Single (Extends t q span)) after)) ≡ Some Extending
child_read Done t q span after silent kept = extending_read after kept
child_read (Then i b) t q span after silent kept = ap (λ x. phases x (join b (Then (Single (Extends t q span)) after))) (silent_starts i silent.0) ∙ child_read b t q span after silent.1 kept

pub top_read : (b : Body) → TopLevel b → (ph : Phase) × (phases Starting b ≡ Some ph)
top_read b top =
    ⊎_elim (plain_read b) (λ (c : Child b). (Extending, ap (phases Starting) c.is ∙ child_read c.before c.tag c.parent c.span c.after c.silent c.kept)) top

-- so what is refused in the middle is refused as a whole
pub phases-join : (a b : Body) (ph : Phase) → phases ph (join a b) ≡ (phases ph a >>= λ q. phases q b)
phases-join Done b ph = refl
phases-join (Then i a) b ph = goes (next_phase ph i) (phases-join a b)
  where
    goes : (o : Option Phase) → ((q : Phase) → phases q (join a b) ≡ (phases q a >>= λ r. phases r b)) → (o >>= λ q. phases q (join a b)) ≡ ((o >>= λ q. phases q a) >>= λ r. phases r b)
    goes None again = refl
    goes (Some q) again = again q

end_is : (ts : Items) → is_end ts ≡ true → ts ≡ Ended
end_is Ended h = refl
end_is (Failed text span) h = cc
end_is (Token t span ts) h = cc

-- what is read is a template of these tokens
pub template_sound : (l : Limits) (ts : Items) (b : Body) → template l ts ≡ Some b → IsTemplate l ts b
template_sound l ts b h =
    let k : (body l.bodies l [] (at nothing_seen ts) >>= λ x. guard (is_end x.1.tokens) >>= λ u. phases Starting x.0 >>= λ q. Some x.0) ≡ Some b = sym (template_reads l ts) ∙ h in
    bound _ _ _ k (λ x read rest. bound _ _ _ rest (λ u left more. bound _ _ _ more (λ ph phased made.
    let found = body_sound l l.bodies [] (at nothing_seen ts) x read in
    let same : x.0 ≡ b = same_Some _ _ made in
    subst (IsTemplate l ts) same (record {
      tokens = found.tokens ∙ ap (yield x.0) (end_is x.1.tokens (guard_ok _ u left));
      fits = found.fits;
      distinct = subst NamesAreDistinct (same_names x.0) (names_distinct (places x.0) found.named.fresh);
      top = top_found x.0 ph phased;
      low = found.height;
    }))))

-- each is read
pub template_complete : (l : Limits) (ts : Items) (b : Body) → IsTemplate l ts b → template l ts ≡ Some b
template_complete l ts b h =
    let (ph, phased) = top_read b h.top in
    let k : (body l.bodies l [] (at nothing_seen ts) >>= λ x. guard (is_end x.1.tokens) >>= λ u. phases Starting x.0 >>= λ q. Some x.0) ≡ Some b =
    rw (h.tokens, whole b l l.bodies [] nothing_seen Ended h.fits h.low (names_new (places b) (subst NamesAreDistinct (sym (same_names b)) h.distinct)) tt, phased) refl in
    template_reads l ts ∙ k

-- no list of tokens has two
pub one_template : (l : Limits) (ts : Items) (b c : Body) → IsTemplate l ts b → IsTemplate l ts c → b ≡ c
one_template l ts b c h k = same_Some _ _ (sym (template_complete l ts b h) ∙ template_complete l ts c k)
