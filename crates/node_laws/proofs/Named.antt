-- A decision record names by their numbers exactly the participants that have voted commit.
use Rattle.std.proofs.Common.{◌≡◌, ◌==◌, refl, ℕ, Bool, true, false, ◌&&◌, ◌||◌, List, [], ◌∷◌, map, filter, if◌then◌else◌}
use Rattle.std.specs.List.{list_any}
use Rattle.decision_journal.specs.declared.record.Registration.{Registration}
use Rattle.two_phase.specs.Parties.{has_voted_commit}
use Rattle.two_phase.specs.declared.party.Party.{Party}
use Rattle.coordinator.specs.Hearing.{recorded}

abbrev has_number : ℕ → Registration → Bool
has_number g r = r.index == g

abbrev is_voter : ℕ → Party → Bool
is_voter g p = p.index == g && has_voted_commit p

-- one more participant, by whether it has this number and has voted commit
one_more : (is voted rest : Bool) (g : ℕ) (p : Party) (others : List Party) → (p.index == g) ≡ is
    → list_any (has_number g) (map recorded (filter has_voted_commit others)) ≡ rest
    → list_any (has_number g) (map recorded (if voted then p ∷ filter has_voted_commit others else filter has_voted_commit others)) ≡ ((is && voted) || rest)
one_more true true rest g p others e r = rw e refl
one_more false true rest g p others e r = rw (e, r) refl
one_more true false rest g p others e r = r
one_more false false rest g p others e r = r

pub named_by : (g : ℕ) (some : List Party) → list_any (has_number g) (map recorded (filter has_voted_commit some)) ≡ list_any (is_voter g) some
named_by g [] = refl
named_by g (p ∷ others) = one_more (p.index == g) (has_voted_commit p) (list_any (is_voter g) others) g p others refl (named_by g others)
