-- A whole message of a stream is that of its content.
use Rattle.std.proofs.Common.{◌≡◌, ℕ, Result, Ok, Err, Some, refl, sym, subst, ◌∙◌}
use Rattle.giop_frames.specs.declared.fault.FrameFault.{FrameFault}
use Rattle.giop_frames.specs.declared.header.Header.{Header}
use Rattle.giop_frames.specs.declared.message.Message.{Message}
use Rattle.giop_frames.specs.Content.{message_by, start_by}
use Rattle.giop_frames.specs.Laws.{ContentIsRead, ReadIsContent, StartIsBehindFields}
use Rattle.giop_streams.specs.declared.framed.Framed.{Framed}
use Rattle.giop_streams.specs.Laws.{FramedIsWhole, IsFramed, WholeIsFramed}
use Rattle.giop_streams.specs.Stream.{whole}

-- a whole message holds a message
whole_is : (place : ℕ) (header : Header) (start : ℕ) (read : Result Message FrameFault) (framed : Framed) → whole place header start read ≡ Ok (Some framed)
    → (m : Message) × (read ≡ Ok m) × (framed ≡ record { place = place; version = header.version; order = header.order; size = header.size; start = start; message = m })
whole_is place header start (Ok m) framed e = (m, refl, cc)
whole_is place header start (Err fault) framed e = absurd cc

-- and is that of its content
pub framed_found : ReadIsContent → StartIsBehindFields → WholeIsFramed
framed_found found start place header content framed e =
    let w = whole_is place header (start_by header content) (message_by header content) framed e in
    let c = found header.version header.order header.kind content w.0 w.1 in
    subst (λ (f : Framed). IsFramed place header content f) (sym w.2) (record {
      place_is = refl;
      version_is = refl;
      order_is = refl;
      size_is = refl;
      kind_is = c.0;
      is_content = c.1;
      start_is = start header.version header.order header.kind content w.0 c.0 c.1;
    })

-- what is so of a content is the whole message
pub framed_only : ContentIsRead → StartIsBehindFields → FramedIsWhole
framed_only only start place header content framed is =
    let read : message_by header content ≡ Ok framed.message = only header.version header.order header.kind content framed.message is.kind_is is.is_content in
    let begins : start_by header content ≡ framed.start = start header.version header.order header.kind content framed.message is.kind_is is.is_content ∙ sym is.start_is in
    rw (read, begins, ← is.place_is, ← is.version_is, ← is.order_is, ← is.size_is) refl
