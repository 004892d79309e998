use Rattle.std.proofs.Common.{◌≡◌, ℕ, ◌++◌, List, Option, None, Some, Result, Ok, Err, length, take, drop, arith}
use Rattle.std.proofs.lemmas.Grind.{common_steps}
use Rattle.std.specs.Prelude.{OnErr}
use Rattle.std.specs.Io.KnownBytes.{Appends, Keeps}
use Rattle.ots_outside.specs.Sink.{TakesPart}

-- of these octets all but the rest went out, to a writer that held what is known before and holds what is known after
pub record HasSent (before : Option (List ℕ)) (bytes rest : List ℕ) (after : Option (List ℕ)) : Type 0 where
  pub sent : List ℕ
  pub split : bytes ≡ sent ++ rest
  pub appended : Appends before after sent

-- a write takes the front of the rest
pub HasSent-more : (before mid after : Option (List ℕ)) (bytes rest next : List ℕ) (n : ℕ) → HasSent before bytes rest mid → Appends mid after (take n rest) → next ≡ drop n rest → HasSent before bytes next after
HasSent-more None mid after bytes rest next n h more left = record { sent = h.sent ++ take n rest; split = grind (arith, common_steps, h.split); appended = tt }
HasSent-more (Some xs) None after bytes rest next n h more left = absurd h.appended
HasSent-more (Some xs) (Some ys) None bytes rest next n h more left = absurd more
HasSent-more (Some xs) (Some ys) (Some zs) bytes rest next n h more left = record { sent = h.sent ++ take n rest; split = grind (arith, common_steps, h.split); appended = grind (arith, common_steps, h.appended, more) }

-- the writer is as it was
pub HasSent-kept : (before mid after : Option (List ℕ)) (bytes rest : List ℕ) → HasSent before bytes rest mid → Keeps mid after → HasSent before bytes rest after
HasSent-kept None mid after bytes rest h kept = record { sent = h.sent; split = h.split; appended = tt }
HasSent-kept (Some xs) None after bytes rest h kept = absurd h.appended
HasSent-kept (Some xs) (Some ys) None bytes rest h kept = absurd kept
HasSent-kept (Some xs) (Some ys) (Some zs) bytes rest h kept = record { sent = h.sent; split = h.split; appended = grind (arith, h.appended, kept) }

-- what went out is a front
pub HasSent-part : (before after : Option (List ℕ)) (bytes rest : List ℕ) → HasSent before bytes rest after → TakesPart before bytes after
HasSent-part None after bytes rest h = tt
HasSent-part (Some xs) None bytes rest h = absurd h.appended
HasSent-part (Some xs) (Some ys) bytes rest h = (length h.sent, grind (arith, common_steps, h.appended, h.split))

-- what always holds, holds at an error
pub OnErr-always : {T E P : Type 0} (r : Result T E) → P → OnErr r P
OnErr-always (Ok x) p = tt
OnErr-always (Err e) p = p
