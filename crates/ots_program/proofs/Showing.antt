-- A show under way.
use Rattle.std.proofs.Common.{◌≡◌, ℕ, ◌+◌, ◌<◌, List, [], ◌∷◌, ◌++◌, length, take, drop, Option, Some, None, Result, Ok, Err, refl, sym, ap, subst, ◌∙◌, ◌⊎◌, inl, inr, append_assoc, arith}
use Rattle.std.specs.Prelude.{◌≢◌, IfErr, IfSome, OnOk}
use Rattle.std.proofs.lemmas.List.{append-nil, take_all, take-append-drop}
use Rattle.std.proofs.lemmas.List.Concat.{flat_map-append}
use Rattle.std.proofs.Math.Seq.{take-append-add}
use Rattle.giop_frames.specs.declared.fault.FrameFault.{FrameFault}
use Rattle.giop_frames.specs.declared.fault.FrameFault.TheVariants as faults
use Rattle.giop_streams.specs.declared.framed.Framed.{Framed}
use Rattle.giop_frames.specs.declared.layout.Version.{Version}
use Rattle.giop_streams.specs.Stream.{IsBegun, IsCut, IsRefused, IsWhole, Splits, Unfinished, unfinished, part_at, part_header_at}
use Rattle.giop_frames.specs.Header.{header_at, profile_versions}
use Rattle.giop_streams.specs.Held.{Held, HasCome, HasGivenFramed, Holds, IsRefusedAtPlace, IsUnfinished, place_by, place_of}
use Rattle.giop_streams.specs.Laws.{RefusalGoesOn}
use Rattle.ots_outside.specs.Sink.{Takes, TakesPart}
use Rattle.ots_outside.specs.Source.{Gives}
use Rattle.ots_program.specs.declared.status.Status.{Status}
use Rattle.ots_program.specs.declared.status.Status.TheVariants as statuses
use Rattle.ots_program.specs.Answers.{IsReadToEnd}
use Rattle.ots_program.specs.Show.{Ends, OfShow, Shows, ShowsOctets, WritesMessageLines}
use Rattle.ots_program.specs.ShowInside.{Breaks, BrokeOff, EndsStream, GivesMessages, OfPiece, StopsShow, TellsBreak, TellsPiece, TookPiece, status_by}
use Rattle.ots_program.specs.MessageLine.{message_line, message_lines}
use Rattle.ots_program.proofs.Taken.{Takes-none, Takes-trans}

-- these messages come first where octets are held so
pub held_begun : (octets : List ℕ) (messages : List Framed) (h : Held) → Holds profile_versions octets messages h → IsBegun profile_versions messages octets
held_begun octets messages h holds = record { parts = holds.parts; rest = h.rest; splits = holds.splits }

-- messages that come first do so with more octets too
pub begun_on : (octets more : List ℕ) (messages : List Framed) → IsBegun profile_versions messages octets → IsBegun profile_versions messages (octets ++ more)
begun_on octets more messages b = record {
  parts = b.parts;
  rest = b.rest ++ more;
  splits = record {
    front = b.splits.front;
    whole = ap (λ (x : List ℕ). x ++ more) b.splits.whole ∙ append_assoc b.splits.front b.rest more;
    are_parts = b.splits.are_parts;
    taken = b.splits.taken;
    messages_are = b.splits.messages_are;
  };
}

-- ---- a piece

-- so far in a piece: these messages are whole, and their lines were told
pub record Telling (old now : Held) (piece told : List ℕ) : Type 0 where
  pub messages : List Framed
  pub gives : GivesMessages old now piece messages
  pub told_is : told ≡ message_lines messages
  pub accepts : now.refused ≡ None

pub telling_start : (old now : Held) (piece told : List ℕ) → HasCome piece old now → told ≡ [] → now.refused ≡ None → Telling old now piece told
telling_start old now piece told fed none accepts = record {
  messages = [];
  gives = λ octets given h. subst (λ (ms : List Framed). Holds profile_versions (octets ++ piece) ms now) (sym (append-nil given)) (fed profile_versions octets given h);
  told_is = none;
  accepts = accepts;
}

message_lines-push : (messages : List Framed) (m : Framed) → message_lines (messages ++ m ∷ []) ≡ message_lines messages ++ message_line m
message_lines-push messages m = flat_map-append message_line messages (m ∷ []) ∙ ap (λ (x : List ℕ). message_lines messages ++ x) (append-nil (message_line m))

pub telling_more : (old now next : Held) (piece told more : List ℕ) (m : Framed) → Telling old now piece told → HasGivenFramed m now next
    → more ≡ told ++ message_line m → next.refused ≡ None → Telling old next piece more
telling_more old now next piece told more m t gives written accepts = record {
  messages = t.messages ++ m ∷ [];
  gives = λ octets given h. subst (λ (ms : List Framed). Holds profile_versions (octets ++ piece) ms next) (append_assoc given t.messages (m ∷ [])) (gives profile_versions (octets ++ piece) (given ++ t.messages) (t.gives octets given h));
  told_is = written ∙ ap (λ (x : List ℕ). x ++ message_line m) t.told_is ∙ sym (message_lines-push t.messages m);
  accepts = accepts;
}

-- memory ran out
pub telling_memory : (old now : Held) (piece told : List ℕ) → Telling old now piece told → TellsBreak statuses.Memory old piece told
telling_memory old now piece told t = record {
  messages = t.messages;
  stops = tt;
  breaks = λ octets given h. held_begun (octets ++ piece) (given ++ t.messages) now (t.gives octets given h);
  told_is = t.told_is;
}

-- nothing was taken of the piece
telling_none : (old : Held) (piece told : List ℕ) → told ≡ [] → TellsBreak statuses.Memory old piece told
telling_none old piece told none = record {
  messages = [];
  stops = tt;
  breaks = λ octets given h. subst (λ (ms : List Framed). IsBegun profile_versions ms (octets ++ piece)) (sym (append-nil given)) (begun_on octets piece given (held_begun octets given old h));
  told_is = none;
}

-- the stream takes a piece unless memory runs out
pub telling_unfed : (old now : Held) (piece told : List ℕ) (fault : FrameFault) → old.refused ≡ None → (fault ≡ faults.Memory) ⊎ (old.refused ≡ Some fault) → told ≡ []
    → TellsBreak (status_by (place_of now) fault) old piece told
telling_unfed old now piece told fault accepts (inl memory) none = rw memory (telling_none old piece told none)
telling_unfed old now piece told fault accepts (inr refused) none = absurd (cc (accepts, refused))

placed : (h : Held) (fault : FrameFault) → h.refused ≡ Some fault → place_of h ≡ h.place
placed h fault e = ap (λ (r : Option FrameFault). place_by h.place r h.unfinished) e

bad : (old now next : Held) (piece told : List ℕ) (fault : FrameFault) → Telling old now piece told → (fault ≢ faults.Memory)
    → ((fault ≡ faults.Memory) ⊎ IsRefusedAtPlace now next fault)
    → ((fault ≡ faults.Memory) ⊎ (next.refused ≡ Some fault)) → TellsBreak (statuses.BadMessage (place_of next) fault) old piece told
bad old now next piece told fault t not refused (inl memory) = absurd (not memory)
bad old now next piece told fault t not (inl memory) remembered = absurd (not memory)
bad old now next piece told fault t not (inr refused) (inr remembered) = record {
  messages = t.messages;
  stops = tt;
  breaks = λ octets given h. subst (λ (n : ℕ). IsRefused profile_versions (given ++ t.messages) n fault (octets ++ piece)) (sym (placed next fault remembered)) (refused profile_versions (octets ++ piece) (given ++ t.messages) (t.gives octets given h));
  told_is = t.told_is;
}

-- a part was refused
pub telling_refused : (old now next : Held) (piece told : List ℕ) (fault : FrameFault) → Telling old now piece told
    → ((fault ≡ faults.Memory) ⊎ IsRefusedAtPlace now next fault)
    → ((fault ≡ faults.Memory) ⊎ (next.refused ≡ Some fault)) → TellsBreak (status_by (place_of next) fault) old piece told
telling_refused old now next piece told faults.BadMagic t r m = bad old now next piece told faults.BadMagic t (λ e. cc) r m
telling_refused old now next piece told faults.BadVersion t r m = bad old now next piece told faults.BadVersion t (λ e. cc) r m
telling_refused old now next piece told faults.BadType t r m = bad old now next piece told faults.BadType t (λ e. cc) r m
telling_refused old now next piece told (faults.TooLarge n) t r m = bad old now next piece told (faults.TooLarge n) t (λ e. cc) r m
telling_refused old now next piece told faults.BadFragment t r m = bad old now next piece told faults.BadFragment t (λ e. cc) r m
telling_refused old now next piece told (faults.Body place cdr) t r m = bad old now next piece told (faults.Body place cdr) t (λ e. cc) r m
telling_refused old now next piece told faults.Short t r m = bad old now next piece told faults.Short t (λ e. cc) r m
telling_refused old now next piece told faults.NotWritten t r m = bad old now next piece told faults.NotWritten t (λ e. cc) r m
telling_refused old now next piece told faults.Memory t r m = telling_memory old now piece told t

-- ---- a piece and the sink

whole_front : (taken told : List ℕ) (after : Option (List ℕ)) → after ≡ Some (taken ++ told) → (n : ℕ) × (after ≡ Some (taken ++ take n told))
whole_front taken told after e = (length told, e ∙ ap (λ (x : List ℕ). Some (taken ++ x)) (sym (take_all (length told) told (omega arith))))

-- all lines went out
pub writes_whole : (status : Status) (messages : List Framed) (taken : List ℕ) (after : Option (List ℕ)) → after ≡ Some (taken ++ message_lines messages) → WritesMessageLines status messages taken after
writes_whole statuses.Done messages taken after e = e
writes_whole (statuses.BadMessage place fault) messages taken after e = e
writes_whole statuses.Usage messages taken after e = e
writes_whole statuses.DiskFault messages taken after e = e
writes_whole statuses.DoorFault messages taken after e = e
writes_whole (statuses.BadJournal at) messages taken after e = e
writes_whole (statuses.Script line) messages taken after e = e
writes_whole statuses.ReadFault messages taken after e = e
writes_whole statuses.WriteFault messages taken after e = whole_front taken (message_lines messages) after e
writes_whole (statuses.Limit line number) messages taken after e = e
writes_whole statuses.Memory messages taken after e = e

written : (status : Status) (messages : List Framed) (told : List ℕ) (before after : Option (List ℕ)) → told ≡ message_lines messages → Takes before told after → IfSome before (λ taken. WritesMessageLines status messages taken after)
written status messages told None after e t = tt
written status messages told (Some taken) after e t = writes_whole status messages taken after (t ∙ ap (λ (x : List ℕ). Some (taken ++ x)) e)

refused_begun : (messages : List Framed) (place : ℕ) (fault : FrameFault) (octets : List ℕ) → IsRefused profile_versions messages place fault octets → IsBegun profile_versions messages octets
refused_begun messages place fault octets r = record { parts = r.parts; rest = r.rest; splits = r.splits }

breaks_begun : (status : Status) (messages : List Framed) (octets : List ℕ) → Breaks status messages octets → IsBegun profile_versions messages octets
breaks_begun statuses.Done messages octets b = b
breaks_begun (statuses.BadMessage place fault) messages octets b = refused_begun messages place fault octets b
breaks_begun statuses.Usage messages octets b = b
breaks_begun statuses.DiskFault messages octets b = b
breaks_begun statuses.DoorFault messages octets b = b
breaks_begun (statuses.BadJournal at) messages octets b = b
breaks_begun (statuses.Script line) messages octets b = b
breaks_begun statuses.ReadFault messages octets b = b
breaks_begun statuses.WriteFault messages octets b = b
breaks_begun (statuses.Limit line number) messages octets b = b
breaks_begun statuses.Memory messages octets b = b

front_written : (messages : List Framed) (told : List ℕ) (before after : Option (List ℕ)) → told ≡ message_lines messages → TakesPart before told after → IfSome before (λ taken. WritesMessageLines statuses.WriteFault messages taken after)
front_written messages told None after e t = tt
front_written messages told (Some taken) after e t = (t.0, t.1 ∙ ap (λ (x : List ℕ). Some (taken ++ take t.0 x)) e)

-- the sink failed
pub write_broke : (result : Result (Unit {0}) Status) (old new : Held) (piece told : List ℕ) (before after : Option (List ℕ))
    → OnOk result (TellsPiece old new piece told) → IfErr result (λ status. TellsBreak status old piece told) → TakesPart before told after → BrokeOff statuses.WriteFault old piece before after
write_broke (Ok x) old new piece told before after t b part = record {
  messages = t.messages;
  stops = tt;
  breaks = λ octets given h. held_begun (octets ++ piece) (given ++ t.messages) new (t.gives octets given h);
  writes = front_written t.messages told before after t.told_is part;
}
write_broke (Err status) old new piece told before after t b part = record {
  messages = b.messages;
  stops = tt;
  breaks = λ octets given h. breaks_begun status (given ++ b.messages) (octets ++ piece) (b.breaks octets given h);
  writes = front_written b.messages told before after b.told_is part;
}

-- ---- the whole source

-- so far: these octets were read, these messages were whole, and their lines went out
pub record Showing (octets : List ℕ) (left before now : Option (List ℕ)) (h : Held) : Type 0 where
  pub read : List ℕ
  pub rest : List ℕ
  pub left_is : left ≡ Some rest
  pub whole : octets ≡ read ++ rest
  pub messages : List Framed
  pub holds : Holds profile_versions read messages h
  pub taken : Takes before (message_lines messages) now

pub showing_start : (left before : Option (List ℕ)) (h : Held) → Holds profile_versions [] [] h → IfSome left (λ octets. Showing octets left before before h)
showing_start None before h holds = tt
showing_start (Some octets) before h holds = record { read = []; rest = octets; left_is = refl; whole = refl; messages = []; holds = holds; taken = Takes-none before }

more : (octets : List ℕ) (left next before now after : Option (List ℕ)) (h new : Held) (places n : ℕ) (room : List ℕ) → Showing octets left before now h → IfSome left (λ l. Gives l places n room next) → TookPiece h new (take n room) now after → Showing octets next before after new
more octets left next before now after h new places n room s gives t =
    let g : Gives s.rest places n room next = rw s.left_is at gives in
    record {
      read = s.read ++ take n room;
      rest = drop n s.rest;
      left_is = g.rest;
      whole = s.whole ∙ ap (λ (x : List ℕ). s.read ++ x) (sym (take-append-drop n s.rest) ∙ ap (λ (x : List ℕ). x ++ drop n s.rest) (sym g.octets)) ∙ sym (append_assoc s.read (take n room) (drop n s.rest));
      messages = s.messages ++ t.messages;
      holds = t.gives s.read s.messages s.holds;
      taken = subst (λ (x : List ℕ). Takes before x after) (sym (flat_map-append message_line s.messages t.messages)) (Takes-trans (message_lines s.messages) (message_lines t.messages) before now after s.taken t.taken);
    }

pub showing_more : (script left next before now after : Option (List ℕ)) (h new : Held) (places n : ℕ) (room : List ℕ) → IfSome script (λ octets. Showing octets left before now h) → IfSome left (λ l. Gives l places n room next) → TookPiece h new (take n room) now after
    → IfSome script (λ octets. Showing octets next before after new)
showing_more None left next before now after h new places n room s gives t = tt
showing_more (Some octets) left next before now after h new places n room s gives t = more octets left next before now after h new places n room s gives t

told : (status : Status) (octets : List ℕ) (messages : List Framed) (before after : Option (List ℕ)) → Ends status messages octets → IfSome before (λ taken. WritesMessageLines status messages taken after) → ShowsOctets status octets before after
told status octets messages before after ends writes = record { messages = messages; ends = ends; writes = writes }

-- a status that comes without a further octet
begun_shows : (status : Status) (octets : List ℕ) (left before now : Option (List ℕ)) (h : Held) → ((messages : List Framed) → IsBegun profile_versions messages octets → Ends status messages octets) → Showing octets left before now h → ShowsOctets status octets before now
begun_shows status octets left before now h ends s =
    let begun : IsBegun profile_versions s.messages octets = subst (λ (x : List ℕ). IsBegun profile_versions s.messages x) (sym s.whole) (begun_on s.read s.rest s.messages (held_begun s.read s.messages h s.holds)) in
    told status octets s.messages before now (ends s.messages begun) (written status s.messages (message_lines s.messages) before now refl s.taken)

read_failed : (script left before now : Option (List ℕ)) (h : Held) → IfSome script (λ octets. Showing octets left before now h) → IfSome script (λ octets. ShowsOctets statuses.ReadFault octets before now)
read_failed None left before now h s = tt
read_failed (Some octets) left before now h s = begun_shows statuses.ReadFault octets left before now h (λ messages b. b) s

-- reading failed
pub showing_failed : (script left before now : Option (List ℕ)) (h : Held) → IfSome script (λ octets. Showing octets left before now h) → Shows statuses.ReadFault script before now
showing_failed script left before now h s = record { of_show = tt; shows = read_failed script left before now h s }

abbrev no_octets : List ℕ
no_octets = []

nothing_left : (octets : List ℕ) (left next before now : Option (List ℕ)) (h : Held) (places n : ℕ) (room : List ℕ) (s : Showing octets left before now h) → IfSome left (λ l. Gives l places n room next) → n ≡ 0 → 0 < places → (octets ≡ s.read) × (next ≡ Some [])
nothing_left octets left next before now h places n room s gives none place =
    let g : Gives s.rest places n room next = rw s.left_is at gives in
    let empty : s.rest ≡ [] = g.end none place in
    (s.whole ∙ ap (λ (x : List ℕ). s.read ++ x) empty ∙ append-nil s.read, g.rest ∙ ap (λ (x : List ℕ). Some (drop n x)) empty ∙ ap (λ (k : ℕ). Some (drop k (no_octets))) none)

-- the source was read to its end
pub read_to_end : (script left next before now : Option (List ℕ)) (h : Held) (places n : ℕ) (room : List ℕ) → IfSome script (λ octets. Showing octets left before now h) → IfSome left (λ l. Gives l places n room next) → n ≡ 0 → 0 < places → IsReadToEnd script next
read_to_end None left next before now h places n room s gives none place = tt
read_to_end (Some octets) left next before now h places n room s gives none place = (nothing_left octets left next before now h places n room s gives none place).1

ended_told : (status : Status) (octets : List ℕ) (left next before now : Option (List ℕ)) (h : Held) (places n : ℕ) (room : List ℕ) → Showing octets left before now h → IfSome left (λ l. Gives l places n room next) → n ≡ 0 → 0 < places → EndsStream status h
    → ShowsOctets status octets before now
ended_told statuses.Done octets left next before now h places n room s gives none place ends =
    let all = nothing_left octets left next before now h places n room s gives none place in
    let whole : IsWhole profile_versions s.messages octets = subst (λ (x : List ℕ). IsWhole profile_versions s.messages x) (sym all.0) (ends s.read s.messages s.holds) in
    told statuses.Done octets s.messages before now whole (written statuses.Done s.messages (message_lines s.messages) before now refl s.taken)
ended_told (statuses.BadMessage at fault) octets left next before now h places n room s gives none place ends =
    let all = nothing_left octets left next before now h places n room s gives none place in
    let cut : IsCut profile_versions s.messages at octets = subst (λ (x : List ℕ). IsCut profile_versions s.messages at x) (sym all.0) (ends.1 s.read s.messages s.holds) in
    told (statuses.BadMessage at fault) octets s.messages before now (inr (ends.0, cut)) (written (statuses.BadMessage at fault) s.messages (message_lines s.messages) before now refl s.taken)
ended_told statuses.Usage octets left next before now h places n room s gives none place ends = absurd ends
ended_told statuses.DiskFault octets left next before now h places n room s gives none place ends = absurd ends
ended_told statuses.DoorFault octets left next before now h places n room s gives none place ends = absurd ends
ended_told (statuses.BadJournal at) octets left next before now h places n room s gives none place ends = absurd ends
ended_told (statuses.Script line) octets left next before now h places n room s gives none place ends = absurd ends
ended_told statuses.ReadFault octets left next before now h places n room s gives none place ends = absurd ends
ended_told statuses.WriteFault octets left next before now h places n room s gives none place ends = absurd ends
ended_told (statuses.Limit line number) octets left next before now h places n room s gives none place ends = absurd ends
ended_told statuses.Memory octets left next before now h places n room s gives none place ends = absurd ends

OfShow-ended : (status : Status) (h : Held) → EndsStream status h → OfShow status
OfShow-ended statuses.Done h ends = tt
OfShow-ended (statuses.BadMessage at fault) h ends = tt
OfShow-ended statuses.Usage h ends = absurd ends
OfShow-ended statuses.DiskFault h ends = absurd ends
OfShow-ended statuses.DoorFault h ends = absurd ends
OfShow-ended (statuses.BadJournal at) h ends = absurd ends
OfShow-ended (statuses.Script line) h ends = absurd ends
OfShow-ended statuses.ReadFault h ends = absurd ends
OfShow-ended statuses.WriteFault h ends = absurd ends
OfShow-ended (statuses.Limit line number) h ends = absurd ends
OfShow-ended statuses.Memory h ends = absurd ends

ended_writes : (status : Status) (script left next before now : Option (List ℕ)) (h : Held) (places n : ℕ) (room : List ℕ) → IfSome script (λ octets. Showing octets left before now h) → IfSome left (λ l. Gives l places n room next) → n ≡ 0 → 0 < places → EndsStream status h
    → IfSome script (λ octets. ShowsOctets status octets before now)
ended_writes status None left next before now h places n room s gives none place ends = tt
ended_writes status (Some octets) left next before now h places n room s gives none place ends = ended_told status octets left next before now h places n room s gives none place ends

-- the source ended, between messages or inside one
pub showing_ended : (status : Status) (script left next before now : Option (List ℕ)) (h : Held) (places n : ℕ) (room : List ℕ) → IfSome script (λ octets. Showing octets left before now h) → IfSome left (λ l. Gives l places n room next) → n ≡ 0 → 0 < places → EndsStream status h
    → Shows status script before now
showing_ended status script left next before now h places n room s gives none place ends =
    record { of_show = OfShow-ended status h ends; shows = ended_writes status script left next before now h places n room s gives none place ends }

breaks_end : RefusalGoesOn → (status : Status) (messages : List Framed) (octets more : List ℕ) → StopsShow status → Breaks status messages octets → Ends status messages (octets ++ more)
breaks_end law statuses.Done messages octets more stops b = absurd stops
breaks_end law statuses.Usage messages octets more stops b = absurd stops
breaks_end law statuses.DiskFault messages octets more stops b = absurd stops
breaks_end law statuses.DoorFault messages octets more stops b = absurd stops
breaks_end law (statuses.BadJournal at) messages octets more stops b = absurd stops
breaks_end law (statuses.Script line) messages octets more stops b = absurd stops
breaks_end law (statuses.Limit line number) messages octets more stops b = absurd stops
breaks_end law statuses.ReadFault messages octets more stops b = absurd stops
breaks_end law statuses.WriteFault messages octets more stops b = begun_on octets more messages b
breaks_end law statuses.Memory messages octets more stops b = begun_on octets more messages b
breaks_end law (statuses.BadMessage place fault) messages octets more stops b = inl (law profile_versions messages place fault octets more b)

ahead_front : (messages more : List Framed) (taken : List ℕ) (after : Option (List ℕ)) → ((n : ℕ) × (after ≡ Some ((taken ++ message_lines messages) ++ take n (message_lines more)))) → (n : ℕ) × (after ≡ Some (taken ++ take n (message_lines (messages ++ more))))
ahead_front messages more taken after h =
    (length (message_lines messages) + h.0, h.1 ∙ ap (λ (x : List ℕ). Some x) (append_assoc taken (message_lines messages) (take h.0 (message_lines more)) ∙ ap (λ (x : List ℕ). taken ++ x) (sym (ap (take (length (message_lines messages) + h.0)) (flat_map-append message_line messages more) ∙ take-append-add (message_lines messages) (message_lines more) h.0))))

ahead_whole : (messages more : List Framed) (taken : List ℕ) (after : Option (List ℕ)) → after ≡ Some ((taken ++ message_lines messages) ++ message_lines more) → after ≡ Some (taken ++ message_lines (messages ++ more))
ahead_whole messages more taken after h =
    h ∙ ap (λ (x : List ℕ). Some x) (append_assoc taken (message_lines messages) (message_lines more) ∙ ap (λ (x : List ℕ). taken ++ x) (sym (flat_map-append message_line messages more)))

-- lines, and then what a piece wrote
ahead : (status : Status) (messages more : List Framed) (taken : List ℕ) (now after : Option (List ℕ)) → now ≡ Some (taken ++ message_lines messages) → IfSome now (λ t. WritesMessageLines status more t after) → StopsShow status → WritesMessageLines status (messages ++ more) taken after
ahead statuses.Done messages more taken now after e w stops = absurd stops
ahead statuses.Usage messages more taken now after e w stops = absurd stops
ahead statuses.DiskFault messages more taken now after e w stops = absurd stops
ahead statuses.DoorFault messages more taken now after e w stops = absurd stops
ahead (statuses.BadJournal at) messages more taken now after e w stops = absurd stops
ahead (statuses.Script line) messages more taken now after e w stops = absurd stops
ahead (statuses.Limit line number) messages more taken now after e w stops = absurd stops
ahead statuses.ReadFault messages more taken now after e w stops = absurd stops
ahead statuses.WriteFault messages more taken now after e w stops = ahead_front messages more taken after (rw e at w)
ahead statuses.Memory messages more taken now after e w stops = ahead_whole messages more taken after (rw e at w)
ahead (statuses.BadMessage place fault) messages more taken now after e w stops = ahead_whole messages more taken after (rw e at w)

broke_writes : (status : Status) (messages more : List Framed) (before now after : Option (List ℕ)) → Takes before (message_lines messages) now → IfSome now (λ t. WritesMessageLines status more t after) → StopsShow status → IfSome before (λ taken. WritesMessageLines status (messages ++ more) taken after)
broke_writes status messages more None now after t w stops = tt
broke_writes status messages more (Some taken) now after t w stops = ahead status messages more taken now after t w stops

broke : RefusalGoesOn → (status : Status) (octets : List ℕ) (left next before now after : Option (List ℕ)) (h : Held) (places n : ℕ) (room : List ℕ) → Showing octets left before now h → IfSome left (λ l. Gives l places n room next) → BrokeOff status h (take n room) now after → ShowsOctets status octets before after
broke law status octets left next before now after h places n room s gives b =
    let g : Gives s.rest places n room next = rw s.left_is at gives in
    let whole : octets ≡ (s.read ++ take n room) ++ drop n s.rest = s.whole ∙ ap (λ (x : List ℕ). s.read ++ x) (sym (take-append-drop n s.rest) ∙ ap (λ (x : List ℕ). x ++ drop n s.rest) (sym g.octets)) ∙ sym (append_assoc s.read (take n room) (drop n s.rest)) in
    let ends : Ends status (s.messages ++ b.messages) octets = subst (λ (x : List ℕ). Ends status (s.messages ++ b.messages) x) (sym whole) (breaks_end law status (s.messages ++ b.messages) (s.read ++ take n room) (drop n s.rest) b.stops (b.breaks s.read s.messages s.holds)) in
    told status octets (s.messages ++ b.messages) before after ends (broke_writes status s.messages b.messages before now after s.taken b.writes b.stops)

broke_told : RefusalGoesOn → (status : Status) (script left next before now after : Option (List ℕ)) (h : Held) (places n : ℕ) (room : List ℕ) → IfSome script (λ octets. Showing octets left before now h) → IfSome left (λ l. Gives l places n room next) → BrokeOff status h (take n room) now after
    → IfSome script (λ octets. ShowsOctets status octets before after)
broke_told law status None left next before now after h places n room s gives b = tt
broke_told law status (Some octets) left next before now after h places n room s gives b = broke law status octets left next before now after h places n room s gives b

OfShow-stopped : (status : Status) → StopsShow status → OfShow status
OfShow-stopped statuses.WriteFault stops = tt
OfShow-stopped (statuses.BadMessage place fault) stops = tt
OfShow-stopped statuses.Memory stops = tt
OfShow-stopped statuses.Done stops = absurd stops
OfShow-stopped statuses.Usage stops = absurd stops
OfShow-stopped statuses.DiskFault stops = absurd stops
OfShow-stopped statuses.DoorFault stops = absurd stops
OfShow-stopped (statuses.BadJournal at) stops = absurd stops
OfShow-stopped (statuses.Script line) stops = absurd stops
OfShow-stopped statuses.ReadFault stops = absurd stops
OfShow-stopped (statuses.Limit line number) stops = absurd stops

-- a show broke off at a piece
pub showing_broke : RefusalGoesOn → (status : Status) (script left next before now after : Option (List ℕ)) (h : Held) (places n : ℕ) (room : List ℕ) → IfSome script (λ octets. Showing octets left before now h) → IfSome left (λ l. Gives l places n room next) → BrokeOff status h (take n room) now after
    → Shows status script before after
showing_broke law status script left next before now after h places n room s gives b =
    record { of_show = OfShow-stopped status b.stops; shows = broke_told law status script left next before now after h places n room s gives b }

-- ---- the end of the stream

ends_whole : (h : Held) → h.unfinished ≡ [] → h.rest ≡ [] → EndsStream statuses.Done h
ends_whole h none empty octets messages holds = record {
  parts = holds.parts;
  splits = subst (λ (rest : List ℕ). Splits profile_versions octets holds.parts messages rest) empty holds.splits;
  finished = sym holds.unfinished_are ∙ none;
}

no_items : {X : Type 0} (xs : List X) → ((xs ≢ []) → ⊥) → xs ≡ []
no_items [] h = refl
no_items (x ∷ xs) h = absurd (h (λ e. cc))

inside_parts : (h : Held) (messages : List Unfinished) → h.unfinished ≡ messages → IsUnfinished h → (messages ≢ []) ⊎ (h.rest ≢ [])
inside_parts h messages e (inl some) = inl (λ none. some (e ∙ none))
inside_parts h messages e (inr rest) = inr rest

-- the stream ends inside a message
pub ends_inside : (h : Held) (place : ℕ) → part_at h.versions h.rest ≡ Err faults.Short → h.refused ≡ None → place ≡ place_of h → IsUnfinished h → EndsStream (statuses.BadMessage place faults.Short) h
ends_inside h place partial accepts is inside = (
  refl,
  λ octets messages holds. record {
    parts = holds.parts;
    rest = h.rest;
    splits = holds.splits;
    partial = ap (λ (vs : List Version). part_at vs h.rest) (sym holds.versions_are) ∙ partial;
    inside = inside_parts h (unfinished holds.parts) holds.unfinished_are inside;
    place_is = is ∙ rw (accepts, holds.place_is, holds.unfinished_are) refl;
  },
)

-- the stream ends with no message unfinished
pub ends_finished : (h : Held) → (IsUnfinished h → ⊥) → EndsStream statuses.Done h
ends_finished h not = ends_whole h (no_items h.unfinished (λ some. not (inl some))) (no_items h.rest (λ some. not (inr some)))

-- ---- a stop in a piece

StopsShow-piece : (status : Status) → OfPiece status → StopsShow status
StopsShow-piece statuses.WriteFault own = tt
StopsShow-piece statuses.Memory own = own
StopsShow-piece (statuses.BadMessage place fault) own = own
StopsShow-piece statuses.Done own = own
StopsShow-piece statuses.Usage own = own
StopsShow-piece statuses.DiskFault own = own
StopsShow-piece statuses.DoorFault own = own
StopsShow-piece (statuses.BadJournal at) own = own
StopsShow-piece (statuses.Script line) own = own
StopsShow-piece statuses.ReadFault own = own
StopsShow-piece (statuses.Limit line number) own = own

-- a show stopped in a piece, and the lines so far went out
pub stopped_broke : (status : Status) (old : Held) (piece told : List ℕ) (before after : Option (List ℕ)) → TellsBreak status old piece told → Takes before told after → BrokeOff status old piece before after
stopped_broke status old piece told before after b taken =
    record { messages = b.messages; stops = StopsShow-piece status b.stops; breaks = b.breaks; writes = written status b.messages told before after b.told_is taken }

pub not_write : (status : Status) → OfPiece status → status ≢ statuses.WriteFault
not_write statuses.Memory own e = cc
not_write (statuses.BadMessage place fault) own e = cc
not_write statuses.Done own e = own
not_write statuses.Usage own e = own
not_write statuses.DiskFault own e = own
not_write statuses.DoorFault own e = own
not_write (statuses.BadJournal at) own e = own
not_write (statuses.Script line) own e = own
not_write statuses.ReadFault own e = own
not_write statuses.WriteFault own e = own
not_write (statuses.Limit line number) own e = own

-- nothing is less than a whole part
pub nothing_partial : part_at profile_versions [] ≡ Err faults.Short
unfolding part_at part_header_at header_at
nothing_partial = refl
