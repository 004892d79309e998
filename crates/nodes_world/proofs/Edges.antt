-- Where the journal of a node ends: behind all that stands in it.
use Rattle.std.proofs.Common.{◌≡◌, inl, inr, ℕ, ◌<◌, ◌≤◌, ◌+◌, ◌++◌, suc, List, [], ◌∷◌, length, Contains, Option, Some, refl, sym, ap, subst, arith}
use Rattle.std.proofs.lemmas.Grind.{flat_map-append}
use Rattle.std.proofs.lemmas.List.{length-append}
use Rattle.std.proofs.lemmas.List.Elements.{Contains-append_cases}
use Rattle.std.specs.List.{flat_map}
use Rattle.std.specs.Option.{option_map_or}
use Rattle.decision_journal.specs.Journal.{first_gate, found_in}
use Rattle.decision_journal.specs.Layout.{four, payload, record_octets}
use Rattle.decision_journal.specs.declared.journal.Standing.{Standing}
use Rattle.decision_journal.specs.declared.record.JournalRecord.{JournalRecord}
use Rattle.coordinator.specs.Node.{Node}
use Rattle.family_laws.specs.OwnDecisions.{KeepsDecisions}
use Rattle.family_laws.specs.SoundNode.{AreBefore}
use Rattle.nodes_world.specs.Agreement.{records_at}
use Rattle.nodes_world.specs.AgreementInside.{edge_at, journal_end, placed}
use Rattle.nodes_world.specs.World.{World}
use Rattle.nodes_world.proofs.LoadedNodes.{one_of, standing_placed}
use Rattle.nodes_world.proofs.SoundNodes.{all_of}

-- ---- records stand before the end

pub places_end : (gate : ℕ) (rs : List JournalRecord) (s : Standing) → Contains (placed gate rs) s → s.place < gate + length (flat_map record_octets rs)
places_end gate [] s (i, less, is) = absurd (omega (arith, less))
places_end gate (r ∷ rs) s c =
    let both = length-append (record_octets r) (flat_map record_octets rs) in
    let some : length (record_octets r) ≡ suc (length (four (length (payload r)) ++ payload r)) = refl in
    elim (Contains-append_cases (record { place = gate; item = r } ∷ []) (placed (gate + length (record_octets r)) rs) s c) [
      | inl first ↦ let same = ap (λ (x : Standing). x.place) (one_of (record { place = gate; item = r }) s first) in omega (arith, same, both, some)
      | inr later ↦ let less = places_end (gate + length (record_octets r)) rs s later in omega (arith, less, both)
    ]

pub before_end : (rs : List JournalRecord) → AreBefore (journal_end rs) (found_in rs).standing
before_end rs = all_of (λ (s : Standing). s.place < journal_end rs) (found_in rs).standing (λ s c. places_end first_gate rs s (standing_placed rs s c))

pub end_grows : (rs more : List JournalRecord) → journal_end rs ≤ journal_end (rs ++ more)
end_grows rs more =
    let is = ap length (flat_map-append record_octets rs more) in
    let both = length-append (flat_map record_octets rs) (flat_map record_octets more) in
    omega (arith, is, both)

-- ---- the same in another world

pub edge_is : (w : World) (place : ℕ) (rs : List JournalRecord) → records_at w place ≡ Some rs → edge_at w place ≡ journal_end rs
edge_is w place rs held = ap (λ (o : Option (List JournalRecord)). option_map_or journal_end o 0) held

pub edge_kept : (v w : World) (place : ℕ) (n : Node) → records_at v place ≡ records_at w place → KeepsDecisions (edge_at w place) n → KeepsDecisions (edge_at v place) n
edge_kept v w place n same = subst (λ (o : Option (List JournalRecord)). KeepsDecisions (option_map_or journal_end o 0) n) (sym same)

pub edge_held : (w : World) (place : ℕ) (rs : List JournalRecord) (n : Node) → records_at w place ≡ Some rs → KeepsDecisions (journal_end rs) n → KeepsDecisions (edge_at w place) n
edge_held w place rs n held = subst (λ (o : Option (List JournalRecord)). KeepsDecisions (option_map_or journal_end o 0) n) (sym held)
