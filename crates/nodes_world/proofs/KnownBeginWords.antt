-- What is known of words once a node has made a top-level transaction.
use Rattle.std.proofs.Common.{◌≡◌, ◌≤◌, ◌⊎◌, inl, inr, ℕ, is_some, List, [], ◌∷◌, ◌++◌, slice_get, Some, None, sym, ap, subst, ◌∙◌}
use Rattle.ior_refs.specs.declared.key.ObjectKey.{ObjectKey}
use Rattle.ots_model.specs.Safe.{Stands}
use Rattle.ots_model.specs.declared.completion.Word.{Word as Phase}
use Rattle.ots_model.specs.declared.line.Line.{Line}
use Rattle.ots_model.specs.declared.line.Line.TheVariants as lines
use Rattle.ots_model.specs.declared.tree.Outward.{Outward}
use Rattle.recovery_coord.specs.Limits.{retold_slot}
use Rattle.coordinator.specs.Family.{Family}
use Rattle.coordinator.specs.Node.{Node, life}
use Rattle.nodes_world.specs.declared.thing.Thing.TheVariants as things
use Rattle.nodes_world.specs.Objects.{place_of}
use Rattle.nodes_world.specs.Told as tell
use Rattle.nodes_world.specs.Told.{Told}
use Rattle.nodes_world.specs.World.{World, Seat, OfNode, referred, family_at, thing, with_name, with_seat}
use Rattle.nodes_world.specs.Agreement.{HasSent, records_at}
use Rattle.nodes_world.specs.AgreementInside.{Known, WordsAreTold, IsNumberedBy}
use Rattle.nodes_world.proofs.KnownLines.{AreAmong, lines_of}
use Rattle.nodes_world.proofs.KnownFrames.{newest_phase}
use Rattle.nodes_world.proofs.KnownBeginSeats.{records_begun, refers_begun}

-- those that families have numbered, and those of this life, are known of the node that it has become
module _ (w : World) (place : ℕ) (name : List ℕ) (key : ObjectKey) (s : Seat) (n c : Node) (told : List Told)
    (there : slice_get w.seats place ≡ Some s) (up : s.server ≡ OfNode (Some n)) (free : thing w name ≡ None) (k : Known w told) where
  abbrev left : Seat
  left = record s { server = OfNode (Some c) }

  abbrev v : World
  v = with_name name (things.Transaction key) (with_seat place left w)

  abbrev line : Line
  line = lines.Top name s.name

  abbrev h : List Line
  h = lines_of told

  refers : (to : List ℕ) → referred v to ≡ referred w to
  refers to = refers_begun w place name key s n c told there up free k to

  on : AreAmong h (line ∷ h)
  on l stands = inr stands

  records : (p : ℕ) → records_at v p ≡ records_at w p
  records p = records_begun w place name key s n c told there up free k p

  send_back : (number : ℕ) (phase : Phase) (g : List ℕ) → Stands (lines.Send number phase g) (line ∷ h) → Stands (lines.Send number phase g) h
  send_back number phase g (inl e) = absurd cc
  send_back number phase g (inr stands) = stands

  pub words_begun : ((p : ℕ) (x : Seat) (m : Node) (o : Outward) → slice_get v.seats p ≡ Some x → x.server ≡ OfNode (Some m) → HasSent v p o
      → o.number.life ≡ life m → (o.number.slot ≡ retold_slot) ⊎ (o.number.generation ≤ m.generation))
      → ((p : ℕ) (o : Outward) (f : Family) (of : ObjectKey) → HasSent v p o → family_at v of ≡ Some f → o.number.life ≡ f.key.life
      → o.number.slot ≡ f.key.slot → o.number.generation ≡ f.key.generation → place_of f.key ≡ p → IsNumberedBy f o)
      → WordsAreTold v (lines_of (told ++ tell.Known line ∷ []))
  words_begun given serials = subst (WordsAreTold v) (sym (newest_phase told line)) (record {
    named = λ p o sent. ap is_some (refers o.to) ∙ k.words.named p o sent;
    once = record { one_object = k.words.once.one_object; one_word = k.words.once.one_word };
    told = λ nth p o phase r word is leads. on _ (k.words.told nth p o phase r word is (sym (refers o.to) ∙ leads));
    sent = λ number phase g stands.
        let was = k.words.sent number phase g (send_back number phase g stands) in
        (was.0, was.1, was.2, was.3, was.4, was.5, was.6, refers was.2.to ∙ was.7, was.8);
    replied = k.words.replied;
    asked = k.words.asked;
    voters = k.words.voters;
    lives = λ p o rs sent held. k.words.lives p o rs sent (sym (records p) ∙ held);
    given = given;
    told_again = λ p o rs sent slot held. k.words.told_again p o rs sent slot (sym (records p) ∙ held);
    serials = serials;
  })
