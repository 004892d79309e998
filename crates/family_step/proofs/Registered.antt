-- What a call is answered that registers something or makes a subtransaction, by what the family answers.
use Rattle.std.proofs.Common.{◌≡◌, refl, ap, sym, ℕ, Bool, true, false, Option, Some, None, Ok, Err, length, if◌then◌else◌}
use Rattle.txn_tree.specs.declared.row.TreeFault.{TreeFault}
use Rattle.resource_votes.specs.Ballots.{Ballots}
use Rattle.resource_votes.specs.declared.registration.VoteFault.{VoteFault}
use Rattle.resource_votes.specs.declared.registration.VoteFault.TheVariants as vote_faults
use Rattle.coordinator.specs.Family.{Family}
use Rattle.coordinator.specs.Moves.{only}
use Rattle.coordinator.specs.Table.{Acted, creates_by, registers, tree_refusal, vote_refusal}
use Rattle.coordinator.specs.declared.said.Said.{Said}
use Rattle.coordinator.specs.declared.said.Said.TheVariants as said
use Rattle.family_rules.specs.Asking.{Creates, Registers}

-- it comes to this family and this answer
abbrev pub Comes : Acted → Family → Said → Type 0
Comes a g answer = (a.moved ≡ only g) × (answer ≡ a.said)

-- a transaction that is open, or not
abbrev unless : Bool → Option VoteFault → Option VoteFault
unless may cause = if may then cause else Some vote_faults.Inactive

pub number_is : (cause : Option VoteFault) (n number : ℕ) (later : Ballots) (f g : Family) → Registers cause n later f g (Ok number) → number ≡ n
number_is None n number later f g h = let is = h.0 in cc (is)
number_is (Some x) n number later f g h = let is = h.0 in absurd (cc (is))

pub taken : (may : Bool) (cause : Option VoteFault) (n number : ℕ) (answer : Said) (later : Ballots) (f g : Family) → may ≡ true
    → Registers cause n later f g (Ok number) → Comes (registers (unless may cause) answer later f) g answer
taken true None n number answer later f g e h = (ap only (sym h.1), refl)
taken true (Some x) n number answer later f g e h = let is = h.0 in absurd (cc (is))
taken false cause n number answer later f g e h = absurd (cc (e))

pub refused : (may : Bool) (cause : Option VoteFault) (n : ℕ) (fault : VoteFault) (answer : Said) (later : Ballots) (f g : Family) → may ≡ true
    → Registers cause n later f g (Err fault) → Comes (registers (unless may cause) answer later f) g (vote_refusal fault)
refused true None n fault answer later f g e h = let is = h.0 in absurd (cc (is))
refused true (Some x) n fault answer later f g e h =
    let is = h.0 in
    let same : fault ≡ x = cc (is) in
    (ap only (sym h.1), ap vote_refusal same)
refused false cause n fault answer later f g e h = absurd (cc (e))

pub closed : (may : Bool) (cause : Option VoteFault) (answer : Said) (later : Ballots) (f : Family) → may ≡ false
    → Comes (registers (unless may cause) answer later f) f said.Inactive
closed true cause answer later f e = absurd (cc (e))
closed false cause answer later f e = (refl, refl)

pub created : (cause : Option TreeFault) (b number : ℕ) (f g : Family) → Creates cause b f g (Ok number) → Comes (creates_by cause b f) g (said.Made number)
created None b number f g h =
    let is = h.0 in
    let same : number ≡ length f.rows = cc (is) in
    (ap only (sym h.1), ap (λ (n : ℕ). said.Made n) same)
created (Some x) b number f g h = let is = h.0 in absurd (cc (is))

pub not_created : (cause : Option TreeFault) (b : ℕ) (fault : TreeFault) (f g : Family) → Creates cause b f g (Err fault)
    → Comes (creates_by cause b f) g (tree_refusal fault)
not_created None b fault f g h = let is = h.0 in absurd (cc (is))
not_created (Some x) b fault f g h =
    let is = h.0 in
    let same : fault ≡ x = cc (is) in
    (ap only (sym h.1), ap tree_refusal same)
