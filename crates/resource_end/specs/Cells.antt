-- Cells and what they have: a map from numbers to numbers, kept by rising cell (our profile).
use Rattle.std.specs.Prelude.{ℕ, ◌==◌, nat_lt, if◌then◌else◌, List, [], ◌∷◌, Option, Some, None}
use Rattle.decision_journal.specs.declared.record.Put.{Put}

-- what a cell has
abbrev pub value_at : ℕ → List Put → Option ℕ
value_at cell [] = None
value_at cell (p ∷ ps) = if p.cell == cell then Some p.value else value_at cell ps

-- with a cell set, in its place
abbrev pub with_put : Put → List Put → List Put
with_put p [] = p ∷ []
with_put p (q ∷ qs) =
    if p.cell == q.cell then p ∷ qs
    else if nat_lt p.cell q.cell then p ∷ q ∷ qs else q ∷ with_put p qs

-- cells once these are set
abbrev pub with_puts : List Put → List Put → List Put
with_puts [] cells = cells
with_puts (p ∷ ps) cells = with_put p (with_puts ps cells)
