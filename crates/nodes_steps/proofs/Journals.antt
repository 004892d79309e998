-- Agreement doesn't speak of journals, so with them lines are as safe as they were.
use Rattle.std.proofs.Common.{◌≡◌, ℕ, ◌+◌, List, [], ◌∷◌, ◌++◌, Option, Some, None, refl, sym, ap, subst, ◌∙◌, append-nil}
use Rattle.std.proofs.lemmas.List.Elements.{filter_map-append}
use Rattle.ots_model.specs.declared.line.Line.{Line}
use Rattle.ots_model.specs.Safe.{AreSafe}
use Rattle.decision_journal.specs.declared.record.JournalRecord.{JournalRecord}
use Rattle.nodes_world.specs.Journals.{records_on}
use Rattle.nodes_world.specs.Lives.{journal_line, journal_lines_from, journal_lines_of, last_lines}
use Rattle.nodes_world.specs.Objects.{service_at}
use Rattle.nodes_world.specs.Told.{Told, known, known_in}
use Rattle.nodes_world.specs.World.{World, Seat, Server, OfNode, OfEnd}

journal_unknown : (name : List ℕ) (service : ℕ) (rs : Option (List JournalRecord)) → known (journal_line name service rs) ≡ []
journal_unknown name service (Some rs) = refl
journal_unknown name service None = refl

seat_unknown : (place : ℕ) (s : Seat) (server : Server) → known (journal_lines_of place s server) ≡ []
seat_unknown place s (OfNode up) = journal_unknown s.name (service_at place) (records_on (service_at place) s.disk)
seat_unknown place s (OfEnd up) = refl

last_unknown : (place : ℕ) (seats : List Seat) → known (journal_lines_from place seats) ≡ []
unfolding journal_lines_from
last_unknown place [] = refl
last_unknown place (s ∷ others) =
    filter_map-append known_in (journal_lines_of place s s.server) (journal_lines_from (place + 1) others)
    ∙ ap (λ ls. ls ++ known (journal_lines_from (place + 1) others)) (seat_unknown place s s.server)
    ∙ last_unknown (place + 1) others

pub last_safe : (w : World) (told : List Told) → AreSafe (known told) → AreSafe (known (told ++ last_lines w))
last_safe w told safe =
    let same = filter_map-append known_in told (last_lines w) ∙ ap (λ ls. known told ++ ls) (last_unknown 0 w.seats) ∙ append-nil (known told) in
    subst (λ (ls : List Line). AreSafe ls) (sym same) safe
