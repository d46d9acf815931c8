-- Headers that are written one after the other are one layout.
use Rattle.std.proofs.Common.{◌≡◌, ℕ, List, [], ◌∷◌, ◌++◌, replicate, refl, sym, ◌∙◌, ap}
use Rattle.mad_layout.specs.declared.mad_header.Header.{Header}
use Rattle.mad_layout.specs.declared.rmpp_header.RmppHeader.{RmppHeader}
use Rattle.mad_layout.specs.declared.sa_mad.SaMad.{SaMad}
use Rattle.mad_layout.specs.Bits.{put_field}
use Rattle.mad_layout.specs.Layout.{Field, Fits, put_all, Encodes}
use Rattle.mad_layout.specs.MadHeader.{mad_header}
use Rattle.mad_layout.specs.RmppHeader.{rmpp_header}
use Rattle.mad_layout.specs.SaMad.{sa_mad}
use Rattle.mad_layout.proofs.LayoutLemmas.{encodes_put_all}
use Rattle.rmpp_core.specs.Reply.{reply_fields, reply_bytes}

put_both : (bytes : List ℕ) (ps qs : List Field) → put_all bytes (ps ++ qs) ≡ put_all (put_all bytes ps) qs
put_both bytes [] qs = refl
put_both bytes (p ∷ ps) qs = put_both (put_field bytes p.off p.len p.value) ps qs

fits_both : (ps qs : List Field) → Fits ps → Fits qs → Fits (ps ++ qs)
fits_both [] qs f g = g
fits_both (p ∷ ps) qs f g = (f.0, fits_both ps qs f.1 g)

pub reply_fits : (header : Header) (rmpp : RmppHeader) (fields : SaMad) → Fits (mad_header header) → Fits (rmpp_header rmpp) → Fits (sa_mad fields)
    → Fits (reply_fields header rmpp fields)
reply_fits header rmpp fields f g h =
    fits_both (mad_header header) (rmpp_header rmpp ++ sa_mad fields) f (fits_both (rmpp_header rmpp) (sa_mad fields) g h)

pub reply_is : (header : Header) (rmpp : RmppHeader) (fields : SaMad) (first second third : List ℕ)
    → first ≡ put_all (replicate 256 0) (mad_header header) → second ≡ put_all first (rmpp_header rmpp) → third ≡ put_all second (sa_mad fields)
    → third ≡ reply_bytes header rmpp fields
unfolding reply_bytes
reply_is header rmpp fields first second third a b c =
    c ∙ ap (λ bytes. put_all bytes (sa_mad fields)) (b ∙ ap (λ bytes. put_all bytes (rmpp_header rmpp)) a)
    ∙ sym (put_both (put_all (replicate 256 0) (mad_header header)) (rmpp_header rmpp) (sa_mad fields))
    ∙ sym (put_both (replicate 256 0) (mad_header header) (rmpp_header rmpp ++ sa_mad fields))

pub reply_encoded : (header : Header) (rmpp : RmppHeader) (fields : SaMad) → Fits (reply_fields header rmpp fields)
    → Encodes (reply_bytes header rmpp fields) (reply_fields header rmpp fields)
unfolding reply_bytes
reply_encoded header rmpp fields fits = encodes_put_all (reply_fields header rmpp fields) 256 refl fits
