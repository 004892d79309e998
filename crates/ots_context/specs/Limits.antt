-- The numbers of contexts.
use Rattle.std.specs.Prelude.{ℕ}

-- how many parents a context has at most (our profile)
abbrev pub parent_limit : ℕ
parent_limit = 16

-- the context_id of the Transaction Service (CORBA, Service Context: TransactionService of IOP)
abbrev pub transaction_service : ℕ
transaction_service = 0
