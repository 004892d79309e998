-- The kinds of lines that these scripts tell, in the order of what is printed of each (our profile).
use Rattle.std.specs.Prelude.{ℕ, true, false, List, codes}
use Rattle.ots_model.specs.declared.completion.Ground.TheVariants.{Nobody, Record}
use Rattle.ots_model.specs.declared.completion.Outcome.TheVariants as outcomes
use Rattle.ots_model.specs.declared.completion.Reason.TheVariants as phase_reasons
use Rattle.ots_model.specs.declared.completion.Vote.TheVariants.{VoteCommit, VoteRollback}
use Rattle.ots_model.specs.declared.completion.Word.TheVariants as phase_words
use Rattle.ots_model.specs.declared.line.Line.TheVariants as lines
use Rattle.ots_model.specs.declared.line.ResourceState.TheVariants as states
use Rattle.ots_model.specs.declared.service.Status.TheVariants as status
use Rattle.coordinator.specs.declared.said.Said.TheVariants as said
use Rattle.nodes_world.specs.Told.{Told, Known, Down, Called, Answered, Back, Journal}

-- ---- nodes, transactions, and calls of the client

abbrev pub up : List ℕ → ℕ → Told
up server life = Known (lines.Up server life)

abbrev pub down : List ℕ → Told
down server = Down server

abbrev pub top : List ℕ → List ℕ → Told
top transaction node = Known (lines.Top transaction node)

abbrev pub sub : List ℕ → List ℕ → Told
sub transaction parent = Known (lines.Sub transaction parent)

abbrev pub call_register : ℕ → List ℕ → Told
call_register message transaction = Called message (codes "register_resource") transaction

abbrev pub call_sub : ℕ → List ℕ → Told
call_sub message transaction = Called message (codes "create_subtransaction") transaction

abbrev pub call_status : ℕ → List ℕ → Told
call_status message transaction = Called message (codes "get_status") transaction

abbrev pub call_commit : ℕ → List ℕ → Told
call_commit message transaction = Called message (codes "commit") transaction

abbrev pub call_rollback : ℕ → List ℕ → Told
call_rollback message transaction = Called message (codes "rollback") transaction

abbrev pub reg : List ℕ → List ℕ → List ℕ → Told
reg resource transaction end = Known (lines.Reg resource transaction end)

-- `ans .. ok`, where nothing is given, and where the call has made something with this number
abbrev pub ans : ℕ → Told
ans message = Answered message said.Plain

abbrev pub ans_made : ℕ → ℕ → Told
ans_made message number = Answered message (said.Made number)

abbrev pub ans_status : ℕ → Told
ans_status message = Answered message (said.State status.RolledBack)

abbrev pub ans_rolled_back : ℕ → Told
ans_rolled_back message = Answered message said.TransactionRolledBack

abbrev pub ans_not_exist : ℕ → Told
ans_not_exist message = Answered message said.ObjectNotExist

-- ---- words, votes and outcomes

abbrev pub subdone_committed : List ℕ → Told
subdone_committed transaction = Known (lines.SubDone transaction true)

abbrev pub subdone_rolled_back : List ℕ → Told
subdone_rolled_back transaction = Known (lines.SubDone transaction false)

abbrev pub send_prepare : ℕ → List ℕ → Told
send_prepare message resource = Known (lines.Send message phase_words.Prepare resource)

abbrev pub send_commit : ℕ → List ℕ → Told
send_commit message resource = Known (lines.Send message phase_words.Commit resource)

abbrev pub send_rollback : ℕ → List ℕ → Told
send_rollback message resource = Known (lines.Send message phase_words.Rollback resource)

abbrev pub recv : ℕ → Told
recv message = Known (lines.Recv message)

abbrev pub prepared : List ℕ → Told
prepared resource = Known (lines.State resource states.Prepared)

abbrev pub applied : List ℕ → Told
applied resource = Known (lines.State resource states.Applied)

abbrev pub undone : List ℕ → Told
undone resource = Known (lines.State resource states.Undone)

abbrev pub back : ℕ → ℕ → Told
back message request = Back message request said.Plain

abbrev pub back_commit : ℕ → ℕ → Told
back_commit message request = Back message request (said.Voted VoteCommit)

abbrev pub back_rollback : ℕ → ℕ → Told
back_rollback message request = Back message request (said.Voted VoteRollback)

abbrev pub vote_commit : List ℕ → Told
vote_commit resource = Known (lines.Voted resource VoteCommit)

abbrev pub vote_rollback : List ℕ → Told
vote_rollback resource = Known (lines.Voted resource VoteRollback)

abbrev pub decide_commit : List ℕ → Told
decide_commit transaction = Known (lines.Decide transaction (outcomes.Commit Record))

-- `decide .. commit nobody`, where no resource takes part
abbrev pub decide_nobody : List ℕ → Told
decide_nobody transaction = Known (lines.Decide transaction (outcomes.Commit Nobody))

abbrev pub decide_rollback : List ℕ → List ℕ → Told
decide_rollback transaction resource =
    Known (lines.Decide transaction (outcomes.Rollback (phase_reasons.Vote resource)))

abbrev pub done : List ℕ → Told
done transaction = Known (lines.Done transaction)

-- ---- the end

abbrev pub journal : List ℕ → List ℕ → Told
journal node octets = Journal node octets
