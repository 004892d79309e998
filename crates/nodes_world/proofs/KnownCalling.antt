-- What is known of a world is known once a client's call has gone out.
use Rattle.std.proofs.Common.{◌≡◌, inl, inr, ℕ, Bool, true, false, List, [], ◌∷◌, ◌++◌, slice_get, Option, Some, None, refl, sym, ap, subst, ◌∙◌, ◌≤◌, true≢false, arith, length-append}
use Rattle.std.specs.List.{AllByRecursion}
use Rattle.ior_refs.specs.declared.key.ObjectKey.{ObjectKey}
use Rattle.ots_model.specs.declared.line.Line.{Line}
use Rattle.coordinator.specs.declared.event.Act.{Act}
use Rattle.nodes_world.specs.declared.message.Content.TheVariants as contents
use Rattle.nodes_world.specs.declared.message.Message.{Message}
use Rattle.nodes_world.specs.Told.{Told, operation_of}
use Rattle.nodes_world.specs.World.{World, end_at, next_message, node_at, referred, resource_at, transaction_name, with_sent}
use Rattle.nodes_world.specs.Happenings.{client_message}
use Rattle.nodes_world.specs.Clients.{called_line}
use Rattle.nodes_world.specs.Agreement.{GoesOnFrom}
use Rattle.nodes_world.specs.Limits.{message_limit}
use Rattle.nodes_world.specs.AgreementInside.{Known, DisksAreKnown, SeatsAreNamed}
use Rattle.nodes_world.specs.AgreementSteps.{StaysKnown, is_asked, is_call}
use Rattle.nodes_world.proofs.KnownLines.{among_back, among_turned, lines_of}
use Rattle.nodes_world.proofs.KnownFrames.{push_cases, push_kept}
use Rattle.nodes_world.proofs.KnownTelling.{IsOne, TellsOn, allowed_on, is_bare, is_plain, tells_on}
use Rattle.nodes_world.proofs.KnownSeats.{is_none}
use Rattle.nodes_world.proofs.KnownWorlds.{Frame, follows_self, framed_known, sent_back}

pub called_one : (flag : Line → Bool) (message : ℕ) (operation name : Option (List ℕ)) → AllByRecursion (IsOne flag) (called_line message operation name)
called_one flag message (Some operation) (Some name) = (tt, tt)
called_one flag message (Some operation) None = tt
called_one flag message None name = tt

module _ (w : World) (told more : List Told) (to : ObjectKey) (act : Act) (few : GoesOnFrom w) (k : Known w told)
    (one : (flag : Line → Bool) → AllByRecursion (IsOne flag) more) where
  abbrev call : Message
  call = client_message (contents.Call to act)

  abbrev v : World
  v = with_sent call w

  abbrev later : List Told
  later = told ++ more

  plain : TellsOn is_plain told later
  plain = tells_on is_plain told more (one is_plain)

  none : TellsOn is_none told later
  none = tells_on is_none told more (one is_none)

  old_message : (nth : ℕ) (m : Message) → slice_get (w.messages ++ call ∷ []) nth ≡ Some m → is_call m.content ≡ false
      → (x : Message) × (slice_get w.messages nth ≡ Some x) × (x.content ≡ m.content)
  old_message nth m at heard = elim (push_cases w.messages nth call m at) [
    | inl was ↦ (m, was, refl)
    | inr new ↦ absurd (true≢false (sym (ap (λ (x : Message). is_call x.content) new.1) ∙ heard))
  ]

  called_frame : Frame w v told later
  unfolding referred resource_at end_at node_at
  called_frame = record {
    tells = tells_on is_bare told more (one is_bare);
    allowed = allowed_on told more (one is_bare);
    decided = λ name key is stands. inl (plain.back _ refl stands);
    named = λ name stands. inl (plain.back _ refl stands);
    commits = λ name key f there is stands. among_turned _ _ (plain.back _ refl (among_back _ _ stands));
    transaction_on = λ name key is. is;
    transaction_back = λ name key is. is;
    resource_on = λ name key is. is;
    resource_back = λ name key is. is;
    refers = λ reference. refl;
    resources = λ key. refl;
    messages_on = λ nth m at. (m, push_kept w.messages nth call m at, refl);
    messages_back = old_message;
    families = λ key f there. there;
    records = λ p rs held. inl (rs, held, follows_self rs);
    has = λ p is_so never other. refl;
    seats = λ p server is. is;
    nodes = λ p n is. inl (record { up = is; records = refl; disks = λ s there. (s, there, refl) });
    counted = λ was. record {
      numbers = was.numbers;
      messages = λ p e is. let low = was.messages p e is in let many = length-append w.messages (call ∷ []) in omega (arith, low, many);
      short = was.short;
    };
  }

  seats_called : SeatsAreNamed v (lines_of later)
  seats_called = record {
    named = k.seats.named;
    there = k.seats.there;
    up = λ name life stands. k.seats.up name life (among_turned _ _ (none.back _ refl (among_back _ _ stands)));
    senders = λ p q sent. k.seats.senders p q (sent_back w v told later called_frame k p q sent);
    few = k.seats.few;
    calls = λ nth m key other at says. elim (push_cases w.messages nth call m at) [
      | inl was ↦ k.seats.calls nth m key other was says
      | inr new ↦ (ap (λ (x : Message). x.delivered) new.1, subst (λ (i : ℕ). i ≤ message_limit) (sym new.0) few)
    ];
  }

  disks_called : DisksAreKnown v later
  disks_called = record {
    held = k.disks.held;
    whole = k.disks.whole;
    follows = k.disks.follows;
    decisions = k.disks.decisions;
    rise = λ before behind server life earlier e stands.
        let at = none.split _ before behind refl e in
        k.disks.rise before at.0 server life earlier at.1 stands;
    lives = λ p s up life rs there is stands held. k.disks.lives p s up life rs there is (none.back _ refl stands) held;
    no_superior = k.disks.no_superior;
    rests = k.disks.rests;
  }

  pub called_known : Known v later
  unfolding referred resource_at end_at
  called_known =
      framed_known w v told later called_frame k k.names.keys k.names.once seats_called disks_called
      (λ p s n q there is sent same. k.words.given p s n q there is (sent_back w v told later called_frame k p q sent) same)

pub known_calling : (w : World) (to : ObjectKey) (act : Act) → is_asked act ≡ true → GoesOnFrom w
    → StaysKnown w (record {
      world = with_sent (client_message (contents.Call to act)) w;
      lines = called_line (next_message w) (operation_of act) (transaction_name w to);
    })
known_calling w to act named few told k =
    called_known w told (called_line (next_message w) (operation_of act) (transaction_name w to)) to act few k
    (λ flag. called_one flag (next_message w) (operation_of act) (transaction_name w to))
