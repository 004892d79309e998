-- Each operation is found by its name, and only by its name.
use Rattle.std.proofs.Common.{◌≡◌, ℕ, ◌<◌, ◌&&◌, ◌||◌, Bor, map, get_or, ap, Bool, true, false, eqb, List, [], ◌∷◌, length, Option, Some, None, find, refl, sym, subst, ◌∙◌, arith}
use Rattle.std.specs.List.{list_any}
use Rattle.std.specs.Str.{bytes_eq}
use Rattle.std.proofs.lemmas.Bool.{and_parts}
use Rattle.std.proofs.lemmas.List.{get_or-map}
use Rattle.std.proofs.lemmas.Slice.Eq.{bytes_eq-Decides}
use Rattle.ots_calls.specs.declared.interface.Interface.TheVariants as interfaces
use Rattle.ots_calls.specs.declared.operation.Bare.TheVariants.{GetTerminator, GetCoordinator, RollbackTransaction, GetStatus, GetParentStatus, GetTopLevelStatus, IsTopLevelTransaction, HashTransaction, HashTopLevelTran, RollbackOnly, GetTransactionName, CreateSubtransaction, GetTxcontext, Prepare, Rollback, Commit, CommitOnePhase, Forget, BeforeCompletion, RollbackSubtransaction, NonExistent}
use Rattle.ots_calls.specs.declared.operation.Handing.TheVariants.{IsSameTransaction, IsRelatedTransaction, IsAncestorTransaction, IsDescendantTransaction, RegisterResource, RegisterSynchronization, RegisterSubtranAware, ReplayCompletion, CommitSubtransaction}
use Rattle.ots_calls.specs.declared.operation.Operation.{Operation}
use Rattle.ots_calls.specs.declared.operation.Operation.TheVariants.{Bare, Handing, Create, Recreate, CommitTransaction, AfterCompletion, Put, Get, IsA}
use Rattle.ots_calls.specs.Table.{kinds_of, operation_named, operations, serves, word_of}
use Rattle.ots_calls.specs.TableInside.{by_length, of_length}
use Rattle.ots_calls.specs.Laws.{NamesTellOperations}
use Rattle.ots_calls.proofs.Steps.{found}

-- P holds of each of these kinds
abbrev OfEach : (ℕ → Type 0) → List ℕ → Type 0
OfEach P [] = Unit {0}
OfEach P (kind ∷ kinds) = P kind × OfEach P kinds

same_kind : (n m : ℕ) → eqb n m ≡ true → n ≡ m
same_kind n m e = grind arith

at_first : (P : ℕ → Type 0) (kind first : ℕ) (kinds : List ℕ) (b : Bool) → eqb kind first ≡ b → P first → (list_any (λ one. eqb kind one) kinds ≡ true → P kind) → (b || list_any (λ one. eqb kind one) kinds) ≡ true → P kind
at_first P kind first kinds true e p more h = subst P (sym (same_kind kind first e)) p
at_first P kind first kinds false e p more h = more h

-- what holds of each of these kinds holds of one of them
at_each : (kinds : List ℕ) (P : ℕ → Type 0) → OfEach P kinds → (kind : ℕ) → list_any (λ one. eqb kind one) kinds ≡ true → P kind
at_each [] P all kind h = absurd cc
at_each (first ∷ kinds) P all kind h = at_first P kind first kinds (eqb kind first) refl all.0 (at_each kinds P all.1 kind) h

-- the operation of that name which objects of this kind have, among those whose names are as long
abbrev named_by_length : ℕ → List ℕ → Option Operation
named_by_length kind word = find (λ operation. serves kind operation && bytes_eq word (word_of operation)) (of_length (length word))

-- objects of this kind have the operation by its name
abbrev Finds : Operation → ℕ → Type 0
Finds operation kind = (operation_named kind (word_of operation) ≡ Some operation)
    × (named_by_length kind (word_of operation) ≡ Some operation)

named : (operation : Operation) (kind : ℕ) → serves kind operation ≡ true → Finds operation kind
unfolding operation_named
named Create kind h = at_each (kinds_of interfaces.TransactionFactory) (Finds Create) ((refl, refl), tt) kind h
named Recreate kind h = at_each (kinds_of interfaces.TransactionFactory) (Finds Recreate) ((refl, refl), tt) kind h
named (Bare GetTerminator) kind h = at_each (kinds_of interfaces.Control) (Finds (Bare GetTerminator)) ((refl, refl), tt) kind h
named (Bare GetCoordinator) kind h = at_each (kinds_of interfaces.Control) (Finds (Bare GetCoordinator)) ((refl, refl), tt) kind h
named CommitTransaction kind h = at_each (kinds_of interfaces.Terminator) (Finds CommitTransaction) ((refl, refl), tt) kind h
named (Bare RollbackTransaction) kind h = at_each (kinds_of interfaces.Terminator) (Finds (Bare RollbackTransaction)) ((refl, refl), tt) kind h
named (Bare GetStatus) kind h = at_each (kinds_of interfaces.Coordinator) (Finds (Bare GetStatus)) ((refl, refl), tt) kind h
named (Bare GetParentStatus) kind h = at_each (kinds_of interfaces.Coordinator) (Finds (Bare GetParentStatus)) ((refl, refl), tt) kind h
named (Bare GetTopLevelStatus) kind h = at_each (kinds_of interfaces.Coordinator) (Finds (Bare GetTopLevelStatus)) ((refl, refl), tt) kind h
named (Handing IsSameTransaction) kind h = at_each (kinds_of interfaces.Coordinator) (Finds (Handing IsSameTransaction)) ((refl, refl), tt) kind h
named (Handing IsRelatedTransaction) kind h = at_each (kinds_of interfaces.Coordinator) (Finds (Handing IsRelatedTransaction)) ((refl, refl), tt) kind h
named (Handing IsAncestorTransaction) kind h = at_each (kinds_of interfaces.Coordinator) (Finds (Handing IsAncestorTransaction)) ((refl, refl), tt) kind h
named (Handing IsDescendantTransaction) kind h = at_each (kinds_of interfaces.Coordinator) (Finds (Handing IsDescendantTransaction)) ((refl, refl), tt) kind h
named (Bare IsTopLevelTransaction) kind h = at_each (kinds_of interfaces.Coordinator) (Finds (Bare IsTopLevelTransaction)) ((refl, refl), tt) kind h
named (Bare HashTransaction) kind h = at_each (kinds_of interfaces.Coordinator) (Finds (Bare HashTransaction)) ((refl, refl), tt) kind h
named (Bare HashTopLevelTran) kind h = at_each (kinds_of interfaces.Coordinator) (Finds (Bare HashTopLevelTran)) ((refl, refl), tt) kind h
named (Handing RegisterResource) kind h = at_each (kinds_of interfaces.Coordinator) (Finds (Handing RegisterResource)) ((refl, refl), tt) kind h
named (Handing RegisterSynchronization) kind h = at_each (kinds_of interfaces.Coordinator) (Finds (Handing RegisterSynchronization)) ((refl, refl), tt) kind h
named (Handing RegisterSubtranAware) kind h = at_each (kinds_of interfaces.Coordinator) (Finds (Handing RegisterSubtranAware)) ((refl, refl), tt) kind h
named (Bare RollbackOnly) kind h = at_each (kinds_of interfaces.Coordinator) (Finds (Bare RollbackOnly)) ((refl, refl), tt) kind h
named (Bare GetTransactionName) kind h = at_each (kinds_of interfaces.Coordinator) (Finds (Bare GetTransactionName)) ((refl, refl), tt) kind h
named (Bare CreateSubtransaction) kind h = at_each (kinds_of interfaces.Coordinator) (Finds (Bare CreateSubtransaction)) ((refl, refl), tt) kind h
named (Bare GetTxcontext) kind h = at_each (kinds_of interfaces.Coordinator) (Finds (Bare GetTxcontext)) ((refl, refl), tt) kind h
named (Handing ReplayCompletion) kind h = at_each (kinds_of interfaces.RecoveryCoordinator) (Finds (Handing ReplayCompletion)) ((refl, refl), tt) kind h
named (Bare Prepare) kind h = at_each (kinds_of interfaces.Resource) (Finds (Bare Prepare)) ((refl, refl), ((refl, refl), ((refl, refl), tt))) kind h
named (Bare Rollback) kind h = at_each (kinds_of interfaces.Resource) (Finds (Bare Rollback)) ((refl, refl), ((refl, refl), ((refl, refl), tt))) kind h
named (Bare Commit) kind h = at_each (kinds_of interfaces.Resource) (Finds (Bare Commit)) ((refl, refl), ((refl, refl), ((refl, refl), tt))) kind h
named (Bare CommitOnePhase) kind h = at_each (kinds_of interfaces.Resource) (Finds (Bare CommitOnePhase)) ((refl, refl), ((refl, refl), ((refl, refl), tt))) kind h
named (Bare Forget) kind h = at_each (kinds_of interfaces.Resource) (Finds (Bare Forget)) ((refl, refl), ((refl, refl), ((refl, refl), tt))) kind h
named (Bare BeforeCompletion) kind h = at_each (kinds_of interfaces.Synchronization) (Finds (Bare BeforeCompletion)) ((refl, refl), tt) kind h
named AfterCompletion kind h = at_each (kinds_of interfaces.Synchronization) (Finds AfterCompletion) ((refl, refl), tt) kind h
named (Handing CommitSubtransaction) kind h = at_each (kinds_of interfaces.SubtransactionAwareResource) (Finds (Handing CommitSubtransaction)) ((refl, refl), tt) kind h
named (Bare RollbackSubtransaction) kind h = at_each (kinds_of interfaces.SubtransactionAwareResource) (Finds (Bare RollbackSubtransaction)) ((refl, refl), tt) kind h
named Put kind h = at_each (kinds_of interfaces.Cells) (Finds Put) ((refl, refl), tt) kind h
named Get kind h = at_each (kinds_of interfaces.Cells) (Finds Get) ((refl, refl), tt) kind h
named IsA kind h = at_each (kinds_of interfaces.Object) (Finds IsA) ((refl, refl), ((refl, refl), ((refl, refl), ((refl, refl), ((refl, refl), ((refl, refl), ((refl, refl), ((refl, refl), ((refl, refl), ((refl, refl), tt)))))))))) kind h
named (Bare NonExistent) kind h = at_each (kinds_of interfaces.Object) (Finds (Bare NonExistent)) ((refl, refl), ((refl, refl), ((refl, refl), ((refl, refl), ((refl, refl), ((refl, refl), ((refl, refl), ((refl, refl), ((refl, refl), ((refl, refl), tt)))))))))) kind h

pub names_tell : NamesTellOperations
unfolding operation_named
names_tell kind word operation = (
  (λ (e : operation_named kind word ≡ Some operation).
      let both = and_parts (serves kind operation) (bytes_eq word (word_of operation)) (found (λ (o : Operation). serves kind o && bytes_eq word (word_of o)) operations operation e) in
      (both.0, (bytes_eq-Decides word (word_of operation)).0 both.1)),
  (λ h. subst (λ (w : List ℕ). operation_named kind w ≡ Some operation) (sym h.1) (named operation kind h.0).0),
)

-- what is found among those of the same length is found among all
found_of_few : (kind : ℕ) (word : List ℕ) (operation : Operation) → named_by_length kind word ≡ Some operation → operation_named kind word ≡ Some operation
found_of_few kind word operation e =
    let both = and_parts (serves kind operation) (bytes_eq word (word_of operation)) (found (λ (o : Operation). serves kind o && bytes_eq word (word_of o)) (of_length (length word)) operation e) in
    (names_tell kind word operation).1 (both.0, (bytes_eq-Decides word (word_of operation)).0 both.1)

few_is : (kind : ℕ) (word : List ℕ) (all few : Option Operation) → operation_named kind word ≡ all → named_by_length kind word ≡ few → few ≡ all
few_is kind word (Some operation) few e f =
    let told = (names_tell kind word operation).0 e in
    sym f ∙ subst (λ (w : List ℕ). named_by_length kind w ≡ Some operation) (sym told.1) (named operation kind told.0).1
few_is kind word None (Some operation) e f = let one = found_of_few kind word operation f in absurd (let no : None ≡ Some operation = sym e ∙ one in cc)
few_is kind word None None e f = refl

-- an operation is found among those whose names are as long
pub named_among_few : (kind : ℕ) (word : List ℕ) → find (λ operation. serves kind operation && bytes_eq word (word_of operation)) (of_length (length word)) ≡ operation_named kind word
named_among_few kind word = few_is kind word (operation_named kind word) (named_by_length kind word) refl refl

-- the list to which one of several references points
pub now_at : (refs : List (Bor (List Operation))) (n : ℕ) (d : Bor (List Operation)) → map (λ (some : Bor (List Operation)). some.now) refs ≡ by_length → n < length refs → (get_or refs n d).now ≡ of_length n
now_at refs n d same within =
    sym (get_or-map (λ (some : Bor (List Operation)). some.now) refs n d [] within) ∙ ap (λ (lists : List (List Operation)). get_or lists n []) same
