-- A server after the steps by which it is given settings.
use Rattle.std.proofs.Common.{◌≡◌, ◌∙◌, ◌⊎◌, inl, inr, ◌++◌, ◌∷◌, [], ℕ, List, Bool, true, false, cond, map, string_bytes, Result, Ok, Err, OnOk, OnErr, Option, refl, sym, ap, subst, append_assoc}
use Rattle.std.proofs.Common.{if◌then◌else◌}
use Rattle.std.proofs.lemmas.List.{append-nil}
use Rattle.std.proofs.lemmas.Slice.Eq.{bytes_eq-Decides}
use Rattle.std.specs.List.{list_any}
use Rattle.std.specs.Option.{option_eq}
use Rattle.std.specs.Str.{bytes_eq}
use Rattle.tera_server.specs.Configuring.{AreFoundSet, ArePublishedAgain, IsConfiguredBy, IsUnconfigured, settings_by, site_by}
use Rattle.tera_server.specs.Sending.{unpublished_of}
use Rattle.tera_editor.specs.Settings.{settings_in}
use Rattle.tera_editor.specs.Sites.{AreGiven, IsSiteAt, sited_in}
use Rattle.tera_server.specs.States.{Grows, edited_by, edited_of, with_name}
use Rattle.tera_editor.specs.UnreadFiles.{ReasonVal, is_same, why_of}
use Rattle.tera_server.specs.declared.configuring.FoundSettings.{FoundSettings}
use Rattle.tera_server.specs.declared.server.Server.{Server}
use Rattle.tera_editor.specs.declared.sites.Sites.{Sites}

pub and_both : {T E : Type 0} (P Q : Type 0) (r : Result T E) → OnOk r P → OnOk r Q → OnOk r (P × Q)
and_both P Q (Ok x) p q = (p, q)
and_both P Q (Err e) p q = tt

-- ---- lists that grow

pub grows_same : {A : Type 0} (xs : List A) → Grows xs xs
grows_same xs = ([], sym (append-nil xs))

pub grows_on : {A : Type 0} (xs ys zs : List A) → Grows xs ys → Grows ys zs → Grows xs zs
grows_on xs ys zs (more, is) (rest, then_is) = (more ++ rest, then_is ∙ ap (λ us. us ++ rest) is ∙ append_assoc xs more rest)

pub grows_to : {A : Type 0} (xs ys zs : List A) → ys ≡ zs → Grows xs ys → Grows xs zs
grows_to xs ys zs same h = subst (Grows xs) same h

pub grows_named : (n : List ℕ) (ns : List (List ℕ)) → Grows ns (with_name n ns)
grows_named n ns = by (list_any (λ m. bytes_eq m n) ns)
  where
    by : (b : Bool) → Grows ns (if b then ns else ns ++ n ∷ [])
    by true = grows_same ns
    by false = (n ∷ [], refl)

grows_by : (path : List ℕ) (why : Option ReasonVal) (s : Server) → Grows (edited_of s) (edited_by path why s)
grows_by path why s = by (option_eq is_same (why_of s.unread path) why)
  where
    by : (b : Bool) → Grows (edited_of s) (if b then edited_of s else with_name path (edited_of s))
    by true = grows_same (edited_of s)
    by false = grows_named path (edited_of s)

-- .. by a reason that is set, or is not
pub reason_grows : {E : Type 0} (r : Result (Unit {0}) E) (path : List ℕ) (why : Option ReasonVal) (s t : Server) → OnOk r (edited_of t ≡ edited_by path why s)
    → OnErr r ((edited_of t ≡ edited_of s) ⊎ (edited_of t ≡ with_name path (edited_of s))) → Grows (edited_of s) (edited_of t)
reason_grows (Ok x) path why s t ok err = subst (Grows (edited_of s)) (sym ok) (grows_by path why s)
reason_grows (Err x) path why s t ok err = elim err [
  | inl same ↦ subst (Grows (edited_of s)) (sym same) (grows_same (edited_of s))
  | inr named ↦ subst (Grows (edited_of s)) (sym named) (grows_named path (edited_of s))
]

-- .. by names that are to be published
pub published_grows : {E : Type 0} (r : Result (Unit {0}) E) (s t : Server) (more : List (List ℕ)) → OnOk r (unpublished_of t ≡ unpublished_of s ++ more)
    → OnErr r (unpublished_of t ≡ unpublished_of s) → Grows (unpublished_of s) (unpublished_of t)
published_grows (Ok x) s t more ok err = (more, ok)
published_grows (Err x) s t more ok err = subst (Grows (unpublished_of s)) (sym err) (grows_same (unpublished_of s))

-- ---- what a map has at the name that was set

pub at_itself : {X : Type 0} (n : List ℕ) (x y : X) → cond (bytes_eq n n) x y ≡ x
at_itself n x y = ap (λ b. cond b x y) ((bytes_eq-Decides n n).1 refl)

pub cond_same : {X : Type 0} (b : Bool) (x : X) → x ≡ cond b x x
cond_same true x = refl
cond_same false x = refl

-- ---- steps after another

module _ (s a z b t : Server) (first : a ≡ record s { unpublished = a.unpublished }) (sited : z ≡ record a { sites = z.sites })
    (second : b ≡ record z { unread = b.unread; edited = b.edited }) (third : t ≡ record b { settings = t.settings; unread = t.unread; edited = t.edited }) where
  abbrev with_those : Server → Server
  with_those x = record x { settings = t.settings; unread = t.unread; edited = t.edited }

  abbrev with_sites : Server → Server
  with_sites x = record x { settings = t.settings; sites = z.sites; unread = t.unread; edited = t.edited }

  pub unpublished_is : t.unpublished ≡ a.unpublished
  unpublished_is = ap (λ x. x.unpublished) third ∙ ap (λ x. x.unpublished) second ∙ ap (λ x. x.unpublished) sited

  pub settings_are : b.settings ≡ s.settings
  settings_are = ap (λ x. x.settings) second ∙ ap (λ x. x.settings) sited ∙ ap (λ x. x.settings) first

  pub sites_are : t.sites ≡ z.sites
  sites_are = ap (λ x. x.sites) third ∙ ap (λ x. x.sites) second

  edited_is : edited_of z ≡ edited_of s
  edited_is = ap edited_of sited ∙ ap edited_of first

  pub same_but : t ≡ record s { settings = t.settings; sites = t.sites; unread = t.unread; edited = t.edited; unpublished = t.unpublished }
  same_but =
      third ∙ ap with_those second ∙ ap with_those sited ∙ ap with_sites first
      ∙ ap (λ u. record s { settings = t.settings; sites = z.sites; unread = t.unread; edited = t.edited; unpublished = u }) (sym unpublished_is)
      ∙ ap (λ x. record s { settings = t.settings; sites = x; unread = t.unread; edited = t.edited; unpublished = t.unpublished }) (sym sites_are)

  pub unconfigured : Grows (unpublished_of s) (unpublished_of a) → t.settings.markers ≡ b.settings.markers → (AreGiven a.sites → AreGiven z.sites) → Grows (edited_of z) (edited_of b) → Grows (edited_of b) (edited_of t) → IsUnconfigured s t
  unconfigured published markers given edited more = record {
    same = same_but;
    edited = subst (λ ns. Grows ns (edited_of t)) edited_is (grows_on (edited_of z) (edited_of b) (edited_of t) edited more);
    unpublished = grows_to (unpublished_of s) (unpublished_of a) (unpublished_of t) (ap (λ u. map string_bytes u.items) (sym unpublished_is)) published;
    markers = markers ∙ ap (λ x. x.markers) settings_are;
    given = λ g. subst AreGiven (sym sites_are) (given (subst AreGiven (sym (ap (λ x. x.sites) first)) g));
  }

  pub configured : (folder : List ℕ) (found : FoundSettings) → IsUnconfigured s t → AreFoundSet folder found b t → ArePublishedAgain folder found s a
      → IsSiteAt folder (site_by found (sited_in a.sites folder)) a.sites z.sites → z.sites.renewed ≡ a.sites.renewed → IsConfiguredBy folder found s t
  configured folder found rest h published site renewed = record {
    rest = rest;
    set = record {
      settings = λ f. h.settings f ∙ ap (λ x. cond (bytes_eq folder f) (settings_by found (settings_in x f)) (settings_in x f)) settings_are;
      file = h.file;
      why = h.why;
    };
    site =
        subst (λ x. IsSiteAt folder (site_by found (sited_in s.sites folder)) s.sites x) (sym sites_are)
        (subst (λ x. IsSiteAt folder (site_by found (sited_in x folder)) x z.sites) (ap (λ x. x.sites) first) site);
    renewed = ap (λ x. x.renewed) sites_are ∙ renewed ∙ ap (λ x. x.sites.renewed) first;
    published = record {
      names = published.names;
      inside = published.inside;
      published = ap (λ u. map string_bytes u.items) unpublished_is ∙ published.published;
    };
  }

-- the site of a folder stays
pub site_stays : (s : Sites) (folder : List ℕ) → IsSiteAt folder (sited_in s folder) s s
site_stays s folder f = by (bytes_eq folder f) (bytes_eq-Decides folder f).0
  where
    by : (b : Bool) → (b ≡ true → folder ≡ f) → sited_in s f ≡ cond b (sited_in s folder) (sited_in s f)
    by true is = ap (sited_in s) (sym (is refl))
    by false is = refl
