-- What lines say of names, carried from one list of lines to another.
use Rattle.std.proofs.Common.{ℕ, inl, inr, true, List}
use Rattle.ots_model.specs.declared.line.Line.{Line}
use Rattle.ots_model.specs.declared.line.Line.TheVariants as lines
use Rattle.ots_model.specs.Safe as safe
use Rattle.ots_model.specs.Safe.{Stands, IsRegistered, IsFamily, IsOf, IsJoined, TakesPart, IsCommittedUp, DecidesAlone, IsDecidedBy, IsUpFrom}

-- each line that makes a transaction, of those that are old, stands in b too, and names old ones alone
pub record Carries (Old : List ℕ → Type 0) (a b : List Line) : Type 0 where
  pub top : (t node : List ℕ) → Old t → Stands (lines.Top t node) a → Stands (lines.Top t node) b
  pub imp : (f t node : List ℕ) → Old f → Stands (lines.Imp f t node) a → Stands (lines.Imp f t node) b × Old t
  pub sub : (t parent : List ℕ) → Old t → Stands (lines.Sub t parent) a → Stands (lines.Sub t parent) b × Old parent
  pub family : (f : List ℕ) → IsFamily f a → IsFamily f b → Old f

-- each registration, and each subtransaction that committed, stands in b too
abbrev pub CarriesRegistrations : List Line → List Line → Type 0
CarriesRegistrations a b = (g t end : List ℕ) → Stands (lines.Reg g t end) a → Stands (lines.Reg g t end) b

abbrev pub CarriesEnds : List Line → List Line → Type 0
CarriesEnds a b = (t : List ℕ) → Stands (lines.SubDone t true) a → Stands (lines.SubDone t true) b

-- each old family that decides alone does so in b too
abbrev pub CarriesDeciders : (List ℕ → Type 0) → List Line → List Line → Type 0
CarriesDeciders Old a b = (f : List ℕ) → Old f → DecidesAlone f a → DecidesAlone f b

pub is_registered : (a b : List Line) (g t : List ℕ) → CarriesRegistrations a b → IsRegistered g t a → IsRegistered g t b
is_registered a b g t c (end, s) = (end, c g t end s)

pub is_family : (Old : List ℕ → Type 0) (a b : List Line) (f : List ℕ) → Carries Old a b → Old f → IsFamily f a → IsFamily f b
is_family Old a b f c old (inl (node, s)) = inl (node, c.top f node old s)
is_family Old a b f c old (inr (t, (node, s))) = inr (t, (node, (c.imp f t node old s).0))

pub is_of : (Old : List ℕ → Type 0) (a b : List Line) (f t : List ℕ) → Carries Old a b → Old t → IsOf a f t → IsOf b f t
is_of Old a b f _ c old (safe.IsOf.own family) = safe.IsOf.own (is_family Old a b f c old family)
is_of Old a b f _ c old (safe.IsOf.child t parent s of) =
    let k = c.sub t parent old s in
    safe.IsOf.child t parent k.0 (is_of Old a b f parent c k.1 of)

-- what has something of it is a family
pub family_of : (a : List Line) (f t : List ℕ) → IsOf a f t → IsFamily f a
family_of a f _ (safe.IsOf.own family) = family
family_of a f _ (safe.IsOf.child t parent s of) = family_of a f parent of

-- what is joined to a family is of it
pub of_joined : (a : List Line) (f t : List ℕ) → IsJoined a f t → IsOf a f t
of_joined a f _ (safe.IsJoined.own family) = safe.IsOf.own family
of_joined a f _ (safe.IsJoined.committed t parent done s joined) = safe.IsOf.child t parent s (of_joined a f parent joined)

pub is_joined : (Old : List ℕ → Type 0) (a b : List Line) (f t : List ℕ) → Carries Old a b → CarriesEnds a b → Old t → IsJoined a f t → IsJoined b f t
is_joined Old a b f _ c ends old (safe.IsJoined.own family) = safe.IsJoined.own (is_family Old a b f c old family)
is_joined Old a b f _ c ends old (safe.IsJoined.committed t parent done s joined) =
    let k = c.sub t parent old s in
    safe.IsJoined.committed t parent (ends t done) k.0 (is_joined Old a b f parent c ends k.1 joined)

pub takes_part : (Old : List ℕ → Type 0) (a b : List Line) (g f : List ℕ) → Carries Old a b → CarriesEnds a b → CarriesRegistrations a b → ((t : List ℕ) → IsRegistered g t a → Old t)
    → TakesPart g f a → TakesPart g f b
takes_part Old a b g f c ends registrations old (t, registered, joined) =
    (t, is_registered a b g t registrations registered, is_joined Old a b f t c ends (old t registered) joined)

pub is_up_from : (Old : List ℕ → Type 0) (a b : List Line) (f x : List ℕ) → Carries Old a b → Old f → IsUpFrom a f x → IsUpFrom b f x
is_up_from Old a b _ _ c old (safe.itself f) = safe.itself f
is_up_from Old a b _ _ c old (safe.above f t next x (node, s) of up) =
    let k = c.imp f t node old s in
    let same = is_of Old a b next t c k.1 of in
    safe.above f t next x (node, k.0) same (is_up_from Old a b next x c (c.family next (family_of a next t of) (family_of b next t same)) up)

-- who decides a family stands above it
pub up_to_decider : (a : List Line) (d f : List ℕ) → IsDecidedBy a d f → IsUpFrom a f d
up_to_decider a d _ (safe.alone decides) = safe.itself d
up_to_decider a d _ (safe.superior f t above waits imported of by) = safe.above f t above d imported of (up_to_decider a d above by)

pub is_decided_by : (Old : List ℕ → Type 0) (a b : List Line) (d f : List ℕ) → Carries Old a b → CarriesDeciders Old a b → CarriesDeciders Old b a → Old f → IsDecidedBy a d f → IsDecidedBy b d f
is_decided_by Old a b d _ c to back old (safe.alone decides) = safe.alone (to d old decides)
is_decided_by Old a b d _ c to back old (safe.superior f t above waits (node, s) of by) =
    let k = c.imp f t node old s in
    let same = is_of Old a b above t c k.1 of in
    safe.superior f t above (λ decides. waits (back f old decides)) (node, k.0) same (is_decided_by Old a b d above c to back (c.family above (family_of a above t of) (family_of b above t same)) by)

pub is_committed_up : (Old : List ℕ → Type 0) (a b before earlier : List Line) (t : List ℕ) → Carries Old a b → CarriesEnds before earlier → Old t → IsCommittedUp a before t → IsCommittedUp b earlier t
is_committed_up Old a b before earlier _ c ends old (safe.IsCommittedUp.own t family) = safe.IsCommittedUp.own t (is_family Old a b t c old family)
is_committed_up Old a b before earlier _ c ends old (safe.IsCommittedUp.committed t parent done s up) =
    let k = c.sub t parent old s in
    safe.IsCommittedUp.committed t parent (ends t done) k.0 (is_committed_up Old a b before earlier parent c ends k.1 up)
