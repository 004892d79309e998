-- Whose object has answered commit: it has stored its updates.
use Rattle.std.proofs.Common.{◌≡◌, ℕ, ◌+◌, List, subst}
use Rattle.ots_model.specs.declared.completion.Word.TheVariants as phase_words
use Rattle.ots_model.specs.declared.tree.Word.TheVariants as words
use Rattle.nodes_world.specs.declared.message.Content.{Content}
use Rattle.nodes_world.specs.declared.message.Content.TheVariants as contents
use Rattle.nodes_world.specs.Told.{Told}
use Rattle.nodes_world.specs.World.{World}
pub use Rattle.nodes_world.specs.ToldAgain.{HasAnsweredCommit}
use Rattle.nodes_world.proofs.MessagesGo.{HasContent}
use Rattle.nodes_world.proofs.StoredAnswers.{AreStored, IsStored}
use Rattle.nodes_world.proofs.ToldReplied.{IsReplied}

-- what was sent stays, so it has done so for good
pub answered_on : (w v : World) → ((nth : ℕ) (content : Content) → HasContent w nth content → HasContent v nth content) → (to : List ℕ)
    → HasAnsweredCommit w to → HasAnsweredCommit v to
answered_on w v on to is = record {
  nth = is.nth;
  place = is.place;
  reply = is.reply;
  word = is.word;
  answer = is.answer;
  sent = on is.nth (contents.Request is.place is.word) is.sent;
  own = is.own;
  commit = is.commit;
  replied = on is.reply (contents.Reply (is.nth + 1) is.answer) is.replied;
}

-- the word that told it the outcome was commit
pub replied_commit : (w : World) (to : List ℕ) (is : IsReplied w to) → is.word.word ≡ words.Phase phase_words.Commit → HasAnsweredCommit w to
replied_commit w to is commit = record {
  nth = is.nth;
  place = is.place;
  reply = is.reply;
  word = is.word;
  answer = is.answer;
  sent = is.sent;
  own = is.own;
  commit = commit;
  replied = is.replied;
}

pub answered_stored : (w : World) (told : List Told) → AreStored w told → (to : List ℕ) → HasAnsweredCommit w to → IsStored w told to
answered_stored w told stored to is =
    subst (IsStored w told) is.own (stored is.nth is.place is.reply is.word is.answer is.sent is.commit is.replied)
