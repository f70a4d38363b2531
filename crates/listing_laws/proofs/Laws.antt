-- The laws of the listing of a recording.
use mathlib.Core.Path.{refl}
use Rattle.listener.specs.Answers.{is_handed, is_cancelled, is_stray}
use Rattle.stream.proofs.Passes.{pass_moves}
use Rattle.listing_laws.specs.Laws.{ListingLaws}
use Rattle.listing_laws.proofs.Counts.{all_counted}
use Rattle.listing_laws.proofs.Pieces.{any_reads}

pub listing_laws : ListingLaws
listing_laws =
    record {
      any_reads = any_reads;
      pass_moves = pass_moves;
      handed_counted = all_counted (λ p. p.handed) is_handed (λ p h. refl);
      cancelled_counted = all_counted (λ p. p.cancelled) is_cancelled (λ p h. refl);
      stray_counted = all_counted (λ p. p.stray) is_stray (λ p h. refl);
    }
