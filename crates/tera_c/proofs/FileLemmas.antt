-- Templates that are read of files, one after another.
use Rattle.std.proofs.Common.{◌≡◌, ◌<◌, ℕ, List, [], ◌∷◌, ◌++◌, length, get_or, sym, subst}
use Rattle.std.specs.List.{All}
use Rattle.tera_templates.specs.declared.templates.Template.{Template}
use Rattle.tera_c.specs.Files.{AreReadFrom, IsReadFrom, IsText, IsUnreadBy, IsUnreadFile, IsUnread}
use Rattle.tera_c.specs.declared.shapes.AskedFile.{AskedFile}
use Rattle.tera_c.specs.declared.status.Status.{Status}
use Rattle.tera_c.specs.declared.status.Status.TheVariants.{Written, Short, Faulty, Nothing}
use Rattle.tera_c.specs.declared.status.Status.TheVariants.{NotUtf8, BadMarkers, BadLimits, Memory}

pub read_more : (faults : ℕ) (files : List AskedFile) (templates : List Template) (file : AskedFile) (template : Template)
    → AreReadFrom faults files templates → IsReadFrom faults file template
    → AreReadFrom faults (files ++ file ∷ []) (templates ++ template ∷ [])
read_more faults [] [] file template held one = (one, tt)
read_more faults [] (t ∷ ts) file template held one = absurd held
read_more faults (f ∷ fs) [] file template held one = absurd held
read_more faults (f ∷ fs) (t ∷ ts) file template held one = (held.0, read_more faults fs ts file template held.1 one)

-- an allocation failure may be met whatever is read
pub memory_unread : (A : Type 0) (status : Status) → status ≡ Memory → IsUnreadBy A status
memory_unread A status is = subst (IsUnreadBy A) (sym is) tt

-- what cannot be read as one thing cannot be read as more
pub unread_as : (A B : Type 0) (status : Status) → (B → A) → IsUnreadBy A status → IsUnreadBy B status
unread_as A B Written more held = held
unread_as A B Short more held = held
unread_as A B Faulty more held = held
unread_as A B Nothing more held = held
unread_as A B NotUtf8 more held = λ all. held (more all)
unread_as A B BadMarkers more held = held
unread_as A B BadLimits more held = held
unread_as A B Memory more held = held

pub unread_at : (files : List AskedFile) (i : ℕ) (file : AskedFile) (status : Status) → i < length files
    → file ≡ get_or files i file → IsUnreadFile file status → IsUnread files status
unread_at files i file status within is held =
    unread_as (IsText file) (All IsText files) status (λ all. subst IsText (sym is) (all i file within)) held
