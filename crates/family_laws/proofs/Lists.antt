-- What a registration and a commit make of the lists of participants.
use Rattle.std.proofs.Common.{◌≡◌, ◌≢◌, inl, inr, ℕ, ◌+◌, ◌<◌, ◌≤◌, zero, suc, List, [], ◌∷◌, ◌++◌, length, map, Bool, true, Option, Some, None, Contains, Any, refl, ap, ◌∙◌, arith}
use Rattle.std.proofs.lemmas.Grind.{common_steps}
use Rattle.std.proofs.lemmas.List.{get_or-set_other}
use Rattle.std.proofs.lemmas.List.Elements.{filter_map-append}
use Rattle.std.proofs.lemmas.Option.{slice_get_within, get_or_from_slice_get}
use Rattle.std.specs.Prelude.{slice_set}
use Rattle.std.specs.List.{slice_get, filter_map, cons_option, AllByRecursion}
use Rattle.resource_votes.specs.Ballots.{Ballots, numbered, participants, adopted, registered, registered_aware}
use Rattle.resource_votes.specs.Lists.{list_at, handed_lists, AreNumbers}
use Rattle.resource_votes.specs.declared.registration.Registration.{Registration}
use Rattle.family_laws.proofs.Trees.{same_or_not}

-- ---- all of a list

pub all_joined : {A : Type 0} (P : A → Type 0) (xs ys : List A) → AllByRecursion P xs → AllByRecursion P ys → AllByRecursion P (xs ++ ys)
all_joined P [] ys h k = k
all_joined P (x ∷ xs) ys h k = (h.0, all_joined P xs ys h.1 k)

pub all_map : {A : Type 0} (P Q : A → Type 0) → ((x : A) → P x → Q x) → (xs : List A) → AllByRecursion P xs → AllByRecursion Q xs
all_map P Q m [] h = tt
all_map P Q m (x ∷ xs) h = (m x h.0, all_map P Q m xs h.1)

pub all_of : {A : Type 0} (Q : A → Type 0) → ((x : A) → Q x) → (xs : List A) → AllByRecursion Q xs
all_of Q m [] = tt
all_of Q m (x ∷ xs) = (m x, all_of Q m xs)

pub all_both : {A : Type 0} (P Q R : A → Type 0) → ((x : A) → P x → Q x → R x) → (xs : List A) → AllByRecursion P xs → AllByRecursion Q xs → AllByRecursion R xs
all_both P Q R m [] h k = tt
all_both P Q R m (x ∷ xs) h k = (m x h.0 k.0, all_both P Q R m xs h.1 k.1)

pub all_under : {A B : Type 0} (P : B → Type 0) (g : A → B) (xs : List A) → AllByRecursion (λ x. P (g x)) xs → AllByRecursion P (map g xs)
all_under P g [] h = tt
all_under P g (x ∷ xs) h = (h.0, all_under P g xs h.1)

-- ---- what a list has

pub has_at : {A : Type 0} (xs : List A) (k : ℕ) (x : A) → slice_get xs k ≡ Some x → Contains xs x
has_at xs k x e = (k, slice_get_within xs k x e, get_or_from_slice_get xs k x x e)

pub any_there : {A : Type 0} (P : A → Type 0) (xs : List A) (i : ℕ) (x : A) → slice_get xs i ≡ Some x → P x → Any P xs
any_there P xs i x e p = (i, x, slice_get_within xs i x e, get_or_from_slice_get xs i x x e, p)

-- ---- numbered registrations

numbered_there : (rs : List Registration) (i : ℕ) (r : Registration) → numbered rs i ≡ Some r → Contains rs r
numbered_there rs zero r e = absurd (cc e)
numbered_there rs (suc i) r e = has_at rs i r e

all_consed : (P : Registration → Type 0) (o : Option Registration) (rs : List Registration) → ((r : Registration) → o ≡ Some r → P r) → AllByRecursion P rs → AllByRecursion P (cons_option o rs)
all_consed P None rs m h = h
all_consed P (Some r) rs m h = (m r refl, h)

all_numbered : (P : Registration → Type 0) (rs : List Registration) → ((i : ℕ) (r : Registration) → numbered rs i ≡ Some r → P r) → (xs : List ℕ) → AllByRecursion P (filter_map (numbered rs) xs)
all_numbered P rs m [] = tt
all_numbered P rs m (x ∷ xs) = all_consed P (numbered rs x) (filter_map (numbered rs) xs) (m x) (all_numbered P rs m xs)

-- participants are registered
pub all_there : (b : ℕ) (some : Ballots) → AllByRecursion (Contains some.registrations) (participants b some)
all_there b some = all_numbered (Contains some.registrations) some.registrations (numbered_there some.registrations) (list_at some.lists b)

-- ---- lists

set_at : (P : List ℕ → Type 0) (lists : List (List ℕ)) (b : ℕ) (xs : List ℕ) → P xs → P [] → P (list_at (slice_set lists b xs) b)
set_at P [] b xs p n = n
set_at P (y ∷ lists) zero xs p n = p
set_at P (y ∷ lists) (suc b) xs p n = set_at P lists b xs p n

other_at : (lists : List (List ℕ)) (b c : ℕ) (xs : List ℕ) → c ≢ b → list_at (slice_set lists b xs) c ≡ list_at lists c
other_at lists b c xs o = get_or-set_other lists b c xs [] o

-- the list of a branch once a child has handed its own to its parent
pub handed_cases : (P : List ℕ → Type 0) (lists : List (List ℕ)) (child parent c : ℕ)
    → (c ≡ parent → P (list_at lists parent ++ list_at lists child)) → (c ≢ parent → c ≢ child → P (list_at lists c)) → P []
    → P (list_at (handed_lists lists child parent) c)
handed_cases P lists child parent c joined else none =
    elim (same_or_not c parent) [
      | inl e ↦ rw e (set_at P (slice_set lists child []) parent (list_at lists parent ++ list_at lists child) (joined e) none)
      | inr o ↦
          rw (other_at (slice_set lists child []) parent c (list_at lists parent ++ list_at lists child) o) (elim (same_or_not c child) [
            | inl e ↦ rw e (set_at P lists child [] none none)
            | inr u ↦ rw (other_at lists child c [] u) (else o u)
          ])
    ]

pub adopted_cases : (P : List Registration → Type 0) (some : Ballots) (child parent c : ℕ)
    → (c ≡ parent → P (participants parent some ++ participants child some)) → (c ≢ parent → c ≢ child → P (participants c some)) → P []
    → P (participants c (adopted child parent some))
adopted_cases P some child parent c joined else none =
    handed_cases (λ xs. P (filter_map (numbered some.registrations) xs)) some.lists child parent c
    (λ e. rw (filter_map-append (numbered some.registrations) (list_at some.lists parent) (list_at some.lists child)) (joined e)) else none

-- ---- a registration

numbered_before : (rs : List Registration) (r : Registration) (i : ℕ) → i ≤ length rs → numbered (rs ++ r ∷ []) i ≡ numbered rs i
numbered_before rs r zero k = refl
numbered_before rs r (suc i) k = before rs i (omega (arith, k))
  where
    before : (rs : List Registration) (i : ℕ) → i < length rs → slice_get (rs ++ r ∷ []) i ≡ slice_get rs i
    before [] i k = absurd (omega (arith, k))
    before (x ∷ rs) zero k = refl
    before (x ∷ rs) (suc i) k = before rs i (omega (arith, k))

numbered_last : (rs : List Registration) (r : Registration) → numbered (rs ++ r ∷ []) (length rs + 1) ≡ Some r
numbered_last rs r = let e : length rs + 1 ≡ suc (length rs) = omega arith in rw e (last rs)
  where
    last : (rs : List Registration) → slice_get (rs ++ r ∷ []) (length rs) ≡ Some r
    last [] = refl
    last (x ∷ rs) = last rs

pub still_numbered : (rs : List Registration) (r : Registration) (xs : List ℕ) → AreNumbers (length rs) xs → filter_map (numbered (rs ++ r ∷ [])) xs ≡ filter_map (numbered rs) xs
still_numbered rs r [] h = refl
still_numbered rs r (x ∷ xs) h =
    ap (λ (o : Option Registration). cons_option o (filter_map (numbered (rs ++ r ∷ [])) xs)) (numbered_before rs r x h.1)
    ∙ ap (λ (ys : List Registration). cons_option (numbered rs x) ys) (still_numbered rs r xs h.2)

pub also_last : (rs : List Registration) (r : Registration) (xs : List ℕ) → AreNumbers (length rs) xs
    → filter_map (numbered (rs ++ r ∷ [])) (xs ++ (length rs + 1) ∷ []) ≡ filter_map (numbered rs) xs ++ r ∷ []
also_last rs r xs h =
    filter_map-append (numbered (rs ++ r ∷ [])) xs ((length rs + 1) ∷ [])
    ∙ ap (λ (ys : List Registration). ys ++ filter_map (numbered (rs ++ r ∷ [])) ((length rs + 1) ∷ [])) (still_numbered rs r xs h)
    ∙ ap (λ (o : Option Registration). filter_map (numbered rs) xs ++ cons_option o []) (numbered_last rs r)

-- the registration that a call makes
abbrev pub new_one : ℕ → List ℕ → Bool → Ballots → Registration
new_one branch to aware some = record { index = length some.registrations + 1; branch = branch; to = to; aware = aware }

-- every list has numbers of registrations alone
abbrev pub AllNumbers : Ballots → Type 0
AllNumbers some = (b : ℕ) → AreNumbers (length some.registrations) (list_at some.lists b)

pub registered_cases : (P : List Registration → Type 0) (some : Ballots) (branch : ℕ) (to : List ℕ) (aware : Bool) (c : ℕ) → AllNumbers some
    → (c ≡ branch → P (participants branch some ++ new_one branch to aware some ∷ [])) → (c ≢ branch → P (participants c some)) → P []
    → P (participants c (registered branch to aware some))
registered_cases P some branch to aware c all last else none =
    let r : Registration = new_one branch to aware some in
    let rs : List Registration = some.registrations in
    elim (same_or_not c branch) [
      | inl e ↦
          rw e (set_at (λ xs. P (filter_map (numbered (rs ++ r ∷ [])) xs)) some.lists branch (list_at some.lists branch ++ (length rs + 1) ∷ [])
          (rw (also_last rs r (list_at some.lists branch) (all branch)) (last e)) none)
      | inr o ↦
          rw (other_at some.lists branch c (list_at some.lists branch ++ (length rs + 1) ∷ []) o, still_numbered rs r (list_at some.lists c) (all c)) (else o)
    ]

-- who takes part elsewhere does so still
pub registered_elsewhere : (some : Ballots) (branch : ℕ) (to : List ℕ) (aware : Bool) (c : ℕ) → c ≢ branch → AllNumbers some → participants c (registered branch to aware some) ≡ participants c some
registered_elsewhere some branch to aware c o all =
    ap (λ (xs : List ℕ). filter_map (numbered (some.registrations ++ new_one branch to aware some ∷ [])) xs)
    (other_at some.lists branch c (list_at some.lists branch ++ (length some.registrations + 1) ∷ []) o)
    ∙ still_numbered some.registrations (new_one branch to aware some) (list_at some.lists c) (all c)

-- who is registered for the end alone joins no list
pub aware_same : (some : Ballots) (branch : ℕ) (to : List ℕ) (c : ℕ) → AllNumbers some → participants c (registered_aware branch to some) ≡ participants c some
aware_same some branch to c all = still_numbered some.registrations (new_one branch to true some) (list_at some.lists c) (all c)

numbers_more : (n m : ℕ) (xs : List ℕ) → n ≤ m → AreNumbers n xs → AreNumbers m xs
numbers_more n m [] l h = tt
numbers_more n m (x ∷ xs) l h = (h.0, omega (arith, l, h.1), numbers_more n m xs l h.2)

numbers_joined : (n : ℕ) (xs ys : List ℕ) → AreNumbers n xs → AreNumbers n ys → AreNumbers n (xs ++ ys)
numbers_joined n [] ys h k = k
numbers_joined n (x ∷ xs) ys h k = (h.0, h.1, numbers_joined n xs ys h.2 k)

one_longer : {A : Type 0} (xs : List A) (x : A) → length (xs ++ x ∷ []) ≡ length xs + 1
one_longer xs x = grind (arith, common_steps)

pub numbers_adopted : (some : Ballots) (child parent : ℕ) → AllNumbers some → AllNumbers (adopted child parent some)
numbers_adopted some child parent all c =
    handed_cases (AreNumbers (length some.registrations)) some.lists child parent c
    (λ e. numbers_joined (length some.registrations) (list_at some.lists parent) (list_at some.lists child) (all parent) (all child)) (λ o u. all c) tt

pub numbers_aware : (some : Ballots) (branch : ℕ) (to : List ℕ) → AllNumbers some → AllNumbers (registered_aware branch to some)
numbers_aware some branch to all c =
    let l = one_longer some.registrations (new_one branch to true some) in
    numbers_more (length some.registrations) (length (some.registrations ++ new_one branch to true some ∷ [])) (list_at some.lists c) (omega (arith, l)) (all c)

pub numbers_registered : (some : Ballots) (branch : ℕ) (to : List ℕ) (aware : Bool) → AllNumbers some → AllNumbers (registered branch to aware some)
numbers_registered some branch to aware all c =
    let n : ℕ = length some.registrations in
    let m : ℕ = length (some.registrations ++ new_one branch to aware some ∷ []) in
    let l : m ≡ n + 1 = one_longer some.registrations (new_one branch to aware some) in
    let more : (b : ℕ) → AreNumbers m (list_at some.lists b) = λ b. numbers_more n m (list_at some.lists b) (omega (arith, l)) (all b) in
    elim (same_or_not c branch) [
      | inl e ↦ rw e (set_at (AreNumbers m) some.lists branch (list_at some.lists branch ++ (n + 1) ∷ [])
          (numbers_joined m (list_at some.lists branch) ((n + 1) ∷ []) (more branch) (omega arith, omega (arith, l), tt)) tt)
      | inr o ↦ rw (other_at some.lists branch c (list_at some.lists branch ++ (n + 1) ∷ []) o) (more c)
    ]
