-- Transactions by the numbers in their keys, and resources by their references, as the code finds them (our profile).
use Rattle.std.specs.Prelude.{ℕ, ◌+◌, ◌*◌, ◌%◌, ◌^◌, ◌==◌, ◌&&◌, Bool, List, Option}
use Rattle.std.specs.Map.{lookup}
use Rattle.ior_refs.specs.declared.key.ObjectKey.{ObjectKey}
use Rattle.nodes_parts.specs.declared.transactions.TransactionNumber.{TransactionNumber}

abbrev pub same_number : TransactionNumber → TransactionNumber → Bool
same_number a b =
    a.service == b.service && (a.life == b.life && (a.slot == b.slot && (a.generation == b.generation && a.index == b.index)))

-- the numbers in a key
abbrev pub number_of : ObjectKey → TransactionNumber
number_of key = record {
  service = key.service;
  life = key.life;
  slot = key.slot;
  generation = key.generation;
  index = key.index;
}

-- a number that few transactions share
abbrev pub digest_of_number : TransactionNumber → ℕ
digest_of_number n =
    (((n.generation + (n.index * 2 ^ 24) % 2 ^ 64) % 2 ^ 64 + (n.service * 2 ^ 34) % 2 ^ 64) % 2 ^ 64 + (n.life * 2 ^ 41) % 2 ^ 64) % 2 ^ 64

-- the name of the transaction with a key
abbrev pub name_in : List (TransactionNumber × List ℕ) → ObjectKey → Option (List ℕ)
name_in entries key = lookup (same_number (number_of key)) entries
