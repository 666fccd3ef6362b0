-- Arguments that are read one after another.
use Rattle.std.proofs.Common.{◌≡◌, ℕ, Bool, true, false, ◌||◌, List, [], ◌∷◌, ◌++◌, append-nil, append_assoc, Ordering, Less, Equal, Greater, nat_cmp, refl, sym, ap, ◌∙◌}
use Rattle.std.specs.Ordering.{is_eq, match_ordering}
use Rattle.std.specs.Str.{bytes_eq}
use Rattle.std.specs.Cmp.Lexicographic.{slice_cmp}
use Rattle.std.proofs.lemmas.Map.Text.{is_eq-slice_cmp}
use Rattle.std.proofs.lemmas.List.Folds.{list_any-append}
use Rattle.std.proofs.lemmas.Slice.Eq.{bytes_eq-Decides}
use Rattle.tera_base.specs.declared.utils.Span.{Span}
use Rattle.tera_ast.specs.Tree.{Expr, Args, NoArgs, Arg}
use Rattle.tera_lexer.specs.grammar.Words.{is_one_of}
use Rattle.tera_grammar.specs.Words.{are_distinct}
use Rattle.tera_grammar.specs.expressions.Concrete.{Name, Tree, Row, ended, only, then, argument}
use Rattle.tera_grammar.specs.expressions.Conditions.{argument_names}
use Rattle.tera_grammar.specs.expressions.Output.{output, arguments_output, put_arg}
use Rattle.tera_grammar.specs.expressions.Spans.{row_end}
use Rattle.tera_grammar.proofs.expressions.Repeated.{once}
use Rattle.tera_expr_parts.specs.CommaLists.{has_argument}

or_again : (a b : Bool) → (a || b) ≡ (a || (a || b))
or_again true b = refl
or_again false b = refl

or_swap : (a b c : Bool) → (a || (b || c)) ≡ (b || (a || c))
or_swap true true c = refl
or_swap true false c = refl
or_swap false b c = refl

or_last : (a b : Bool) → (b || a) ≡ (a || (b || false))
or_last true true = refl
or_last true false = refl
or_last false true = refl
or_last false false = refl

same_name : (n k : List ℕ) → slice_cmp nat_cmp n k ≡ Equal → n ≡ k
same_name n k h = (bytes_eq-Decides n k).0 (sym (is_eq-slice_cmp n k) ∙ ap is_eq h)

has_ordered : (m n k : List ℕ) (e f : Expr) (rest : Args) (r : Ordering) → slice_cmp nat_cmp n k ≡ r
    → has_argument m (put_arg n e rest) ≡ (bytes_eq m n || has_argument m rest)
    → has_argument m (match_ordering r (Arg n e (Arg k f rest)) (Arg k e rest) (Arg k f (put_arg n e rest))) ≡ (bytes_eq m n || (bytes_eq m k || has_argument m rest))
has_ordered m n k e f rest Less h more = refl
has_ordered m n k e f rest Equal h more =
    or_again (bytes_eq m k) (has_argument m rest) ∙ ap (λ a. bytes_eq m a || (bytes_eq m k || has_argument m rest)) (sym (same_name n k h))
has_ordered m n k e f rest Greater h more = ap (λ b. bytes_eq m k || b) more ∙ or_swap (bytes_eq m k) (bytes_eq m n) (has_argument m rest)

has_put : (m n : List ℕ) (e : Expr) (args : Args) → has_argument m (put_arg n e args) ≡ (bytes_eq m n || has_argument m args)
has_put m n e NoArgs = refl
has_put m n e (Arg k f rest) = has_ordered m n k e f rest (slice_cmp nat_cmp n k) refl (has_put m n e rest)

-- the arguments so far, and a row that begins with them
pub record Arguing (l : Bool) (done : Args) (put : Row → Row) : Type 0 where
  pub names : List (List ℕ)
  pub shows : (r : Row) → arguments_output l (put r) NoArgs ≡ arguments_output l r done
  pub ends : (r : Row) → row_end (put r) ≡ row_end r
  pub named : (r : Row) → argument_names (put r) ≡ names ++ argument_names r
  pub known : (m : List ℕ) → has_argument m done ≡ is_one_of names m
  pub distinct : are_distinct names ≡ true

-- the arguments of a row
pub record Argued (l : Bool) (done : Args) (here : Span) (r : Row) : Type 0 where
  pub shows : done ≡ arguments_output l r NoArgs
  pub ends : here ≡ row_end r
  pub distinct : are_distinct (argument_names r) ≡ true

abbrev pub none_yet : (l : Bool) → Arguing l NoArgs (λ r. r)
none_yet l = record { names = []; shows = λ r. refl; ends = λ r. refl; named = λ r. refl; known = λ m. refl; distinct = refl }

pub none_at_all : (l : Bool) (s : Span) → Argued l NoArgs s (ended s)
none_at_all l s = record { shows = refl; ends = refl; distinct = refl }

module _ (l : Bool) (done : Args) (put : Row → Row) (a : Arguing l done put) (n : Name) (s : Span) (t : Tree) (e : Expr) (shown : e ≡ output l t) (new : has_argument n.text done ≡ false) where
  pub names_with : are_distinct (a.names ++ n.text ∷ []) ≡ true
  names_with = once a.names n.text a.distinct (sym (a.known n.text) ∙ new)

  pub known_with : (m : List ℕ) → has_argument m (put_arg n.text e done) ≡ is_one_of (a.names ++ n.text ∷ []) m
  known_with m =
      has_put m n.text e done ∙ ap (λ b. bytes_eq m n.text || b) (a.known m) ∙ or_last (is_one_of a.names m) (bytes_eq m n.text)
      ∙ sym (list_any-append (λ k. bytes_eq m k) a.names (n.text ∷ []))

  abbrev pub one_more : (c : Span) → Arguing l (put_arg n.text e done) (λ r. put (then (argument n s t) c r))
  one_more c = record {
    names = a.names ++ n.text ∷ [];
    shows = λ r. a.shows (then (argument n s t) c r) ∙ ap (λ x. arguments_output l r (put_arg n.text x done)) (sym shown);
    ends = λ r. a.ends (then (argument n s t) c r);
    named = λ r. a.named (then (argument n s t) c r) ∙ sym (append_assoc a.names (n.text ∷ []) (argument_names r));
    known = known_with;
    distinct = names_with;
  }

  pub last_one : (c : Span) → Argued l (put_arg n.text e done) c (put (only (argument n s t) c))
  last_one c = record {
    shows = sym (a.shows (only (argument n s t) c) ∙ ap (λ x. put_arg n.text x done) (sym shown));
    ends = sym (a.ends (only (argument n s t) c));
    distinct = ap are_distinct (a.named (only (argument n s t) c)) ∙ names_with;
  }

pub all_of : (l : Bool) (done : Args) (put : Row → Row) → Arguing l done put → (c : Span) → Argued l done c (put (ended c))
all_of l done put a c = record {
  shows = sym (a.shows (ended c));
  ends = sym (a.ends (ended c));
  distinct = ap are_distinct (a.named (ended c) ∙ append-nil a.names) ∙ a.distinct;
}
