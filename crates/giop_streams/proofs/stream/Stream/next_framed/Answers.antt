use Rattle.std.proofs.Common.{◌≡◌, ◌∙◌, ◌⊎◌, ℕ, List, Err, ap, sym, refl, inl, inr, length, min, None, Some, arith}
use Rattle.giop_frames.specs.declared.fault.FrameFault.{FrameFault}
use Rattle.giop_frames.specs.declared.fault.FrameFault.TheVariants as faults
use Rattle.giop_frames.specs.declared.layout.Version.{Version}
use Rattle.giop_streams.specs.declared.framed.Framed.{Framed}
use Rattle.giop_streams.specs.Held.{Held, Holds, looking}
use Rattle.giop_streams.specs.Stream.{part_at}
use Rattle.giop_streams.proofs.Kept.{partial_is_short}
use Rattle.giop_streams.specs.HeldInside.{remembering}
use Rattle.giop_streams.proofs.Results.{less_than, no_more_than, not_done, not_failed, not_none}
use Rattle.giop_streams.proofs.Holding.{holds_part, holds_piece, holds_stream, kept_by, memory_is, buffer_by, part_of, refused_by, shorter}
use Rattle.giop_streams.proofs.stream.Stream.next_framed.Goals as goal

pub loop-self-smaller : goal.loop-self-smaller
loop-self-smaller c = shorter c.headers_are_read_exactly.ensures c.loop-self.self c.take_part.new.self _ (rw c.in-Ok-Piece.field-0-is at c.in-Ok-Piece.ensures)

pub loop-self-preserved : goal.loop-self-preserved
loop-self-preserved c =
    let t = rw c.in-Ok-Piece.field-0-is at c.in-Ok-Piece.ensures in
    record {
      accepts = t.refused ∙ c.loop-self.invariant.accepts;
      goes_on = λ versions octets messages h. holds_piece c.headers_are_read_exactly.ensures versions octets messages c.loop-self.self c.take_part.new.self t c.loop-self.invariant.accepts (c.loop-self.invariant.goes_on versions octets messages h);
      shorter = no_more_than _ _ _ (shorter c.headers_are_read_exactly.ensures c.loop-self.self c.take_part.new.self _ t) c.loop-self.invariant.shorter;
      kept = omega (arith, c.loop-self.invariant.kept, t.kept);
      memory = t.memory ∙ c.loop-self.invariant.memory;
    }

-- a refusal other than want of memory is remembered
remembers : (old now : Held) (fault : FrameFault) → now ≡ remembering old fault → (fault ≡ faults.Memory) ⊎ (now.refused ≡ Some fault)
remembers old now faults.BadMagic is = inr (ap (λ (h : Held). h.refused) is)
remembers old now faults.BadVersion is = inr (ap (λ (h : Held). h.refused) is)
remembers old now faults.BadType is = inr (ap (λ (h : Held). h.refused) is)
remembers old now (faults.TooLarge n) is = inr (ap (λ (h : Held). h.refused) is)
remembers old now faults.BadFragment is = inr (ap (λ (h : Held). h.refused) is)
remembers old now (faults.Body place cdr) is = inr (ap (λ (h : Held). h.refused) is)
remembers old now faults.Short is = inr (ap (λ (h : Held). h.refused) is)
remembers old now faults.NotWritten is = inr (ap (λ (h : Held). h.refused) is)
remembers old now faults.Memory is = inl refl

-- what is held where there is none: a look lost nothing, and then memory was given back
nothing_left : (versions : List Version) (octets : List ℕ) (messages : List Framed) (old new now : Held) → new ≡ looking old → now ≡ record new { kept = now.kept; memory = now.memory; spare = 0 } → Holds versions octets messages old → Holds versions octets messages now
nothing_left versions octets messages old new now looked same h = rw (same, looked) (record { parts = h.parts; versions_are = h.versions_are; splits = h.splits; unfinished_are = h.unfinished_are; place_is = h.place_is; refused = h.refused })

-- octets that are no whole part are few
pub give_memory_back-requires : goal.give_memory_back-requires
give_memory_back-requires c =
    let t = rw c.in-Ok-Nothing.field-0-is at c.in-Ok-Nothing.ensures in
    rw t.0 (partial_is_short c.headers_are_read_exactly.ensures c.loop-self.self.versions c.loop-self.self.rest t.1)

pub returns-in-Ok-Nothing : goal.returns-in-Ok-Nothing
returns-in-Ok-Nothing c =
    let none : c.args.self.now.refused ≡ None = sym (ap (λ (h : Held). h.refused) c.self.view_is) ∙ c.in_default.is in
    let t = rw c.in-Ok-Nothing.field-0-is at c.in-Ok-Nothing.ensures in
    let back = c.give_memory_back.ensures in
    let i = c.loop-self.invariant in
    let new = c.take_part.new.self in
    let now = c.give_memory_back.new.self in
    let rest : now.rest ≡ c.loop-self.self.rest = ap (λ (h : Held). h.rest) back.same ∙ ap (λ (h : Held). h.rest) t.0 in
    let versions_are : now.versions ≡ c.loop-self.self.versions = ap (λ (h : Held). h.versions) back.same ∙ ap (λ (h : Held). h.versions) t.0 in
    let partial : part_at now.versions now.rest ≡ Err faults.Short = rw (rest, versions_are) t.1 in
    let memory : new.memory ≡ c.args.self.now.memory = ap (λ (h : Held). h.memory) t.0 ∙ i.memory in
    record {
      message = tt;
      nothing = λ e versions octets messages h.
          let held = nothing_left versions octets messages c.loop-self.self new now t.0 back.same (i.goes_on versions octets messages h) in
          (held, holds_stream versions octets messages now partial held);
      refused = tt;
      keeps = tt;
      memory = λ none e. absurd (not_failed _ _ e);
      remembered = tt;
      again = rw none tt;
      accepts = ap (λ (h : Held). h.refused) back.same ∙ ap (λ (h : Held). h.refused) t.0 ∙ i.accepts;
      partial = λ e. partial;
      shorter = λ some. absurd cc;
      looked = λ e. ap (λ (h : Held). h.looked) back.same ∙ ap (λ (h : Held). h.looked) t.0 ∙ ap (λ (x : List ℕ). min 12 (length x)) (sym rest);
      kept = omega (arith, back.kept, ap (λ (h : Held). h.kept) t.0, i.kept);
      given_back = λ e. (back.given_back, ap (λ (h : Held). h.spare) back.same);
      stays = λ either. elim either [
        | inl other ↦ absurd (other refl)
        | inr few ↦ back.stays (omega (arith, memory, few)) ∙ memory
      ];
    }

pub returns-in-Ok-Whole : goal.returns-in-Ok-Whole
returns-in-Ok-Whole c =
    let none : c.args.self.now.refused ≡ None = sym (ap (λ (h : Held). h.refused) c.self.view_is) ∙ c.in_default.is in
    let t = rw c.in-Ok-Whole.field-0-is at c.in-Ok-Whole.ensures in
    record {
      message = λ versions octets messages h.
          holds_part c.headers_are_read_exactly.ensures versions octets messages c.loop-self.self c.take_part.new.self _ t c.loop-self.invariant.accepts (c.loop-self.invariant.goes_on versions octets messages h);
      nothing = λ e. absurd (not_none _ e);
      refused = tt;
      keeps = tt;
      memory = λ none e. absurd (not_failed _ _ e);
      remembered = tt;
      again = rw none tt;
      accepts = t.refused ∙ c.loop-self.invariant.accepts;
      partial = λ e. absurd (not_none _ e);
      shorter = λ some. less_than _ _ _ (shorter c.headers_are_read_exactly.ensures c.loop-self.self c.take_part.new.self _ t) c.loop-self.invariant.shorter;
      looked = λ e. absurd (not_none _ e);
      kept = omega (arith, c.loop-self.invariant.kept, t.kept);
      given_back = λ e. absurd (not_none _ e);
      stays = λ either. t.memory ∙ c.loop-self.invariant.memory;
    }

pub returns-in-Err : goal.returns-in-Err
returns-in-Err c =
    let none : c.args.self.now.refused ≡ None = sym (ap (λ (h : Held). h.refused) c.self.view_is) ∙ c.in_default.is in
    let buffer = buffer_by c.loop-self.self c.take_part.new.self c.remember.new.self c.in-Err.fault c.in-Err.ensures c.remember.ensures in
    record {
      message = tt;
      nothing = λ e. absurd (not_done _ _ e);
      refused =
          elim (refused_by c.loop-self.self c.take_part.new.self c.remember.new.self c.in-Err.fault c.in-Err.ensures c.remember.ensures) [
            | inl memory ↦ inl memory
            | inr refused ↦ inr (λ versions octets messages h. refused versions octets messages (c.loop-self.invariant.goes_on versions octets messages h))
          ];
      keeps = λ versions octets messages h.
          kept_by versions octets messages c.loop-self.self c.take_part.new.self c.remember.new.self c.in-Err.fault c.in-Err.ensures c.remember.ensures (c.loop-self.invariant.goes_on versions octets messages h);
      memory = λ none e. part_of c.loop-self.self c.take_part.new.self c.remember.new.self c.in-Err.fault c.in-Err.ensures c.remember.ensures (memory_is c.in-Err.fault _ refl e);
      remembered = remembers c.take_part.new.self c.remember.new.self c.in-Err.fault c.remember.ensures;
      again = rw none tt;
      accepts = tt;
      partial = λ e. absurd (not_done _ _ e);
      shorter = tt;
      looked = λ e. absurd (not_done _ _ e);
      kept = omega (arith, buffer.0, c.loop-self.invariant.kept);
      given_back = λ e. absurd (not_done _ _ e);
      stays = λ either. buffer.1 ∙ c.loop-self.invariant.memory;
    }
