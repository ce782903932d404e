-- The laws of links.
use Rattle.std.proofs.Common.{◌≡◌, ℕ, List, sym, ◌∙◌, ap}
use Rattle.at_cid.specs.Link.{IsLink}
use Rattle.at_cid.specs.Text.{text_of, octets_of}
use Rattle.at_cid.proofs.Links.{link_length}
use Rattle.at_cid.proofs.Texts.{octets_again}

pub text_tells : (one other : List ℕ) → IsLink one → IsLink other → text_of one ≡ text_of other → one ≡ other
text_tells one other p q e =
    sym (octets_again one (link_length one p.link) p.bytes) ∙ (ap octets_of e ∙ octets_again other (link_length other q.link) q.bytes)
