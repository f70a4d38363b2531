-- The laws of a sender over any list of calls.
use native.Mathlib.Omega.{arith}
use Rattle.sender_laws.specs.Laws.{SenderLaws}
use Rattle.sender_laws.proofs.Kept.{after_sound, after_terms}
use Rattle.sender_laws.proofs.Starts.{starts_bounded}
use Rattle.sender_laws.proofs.Runs.{awaited_ends}
use Rattle.sender_laws.proofs.Sent.{sent_so_far, sent_all}
use Rattle.sender_laws.proofs.Offers.{offer, accepted_sound, accepted_holds, zero_is_unsound, starts_of_offer}

pub sender_laws : SenderLaws
sender_laws =
    record {
      offer_sound = λ bytes wait limit. accepted_sound (offer bytes wait limit);
      offer_holds = λ bytes wait limit. accepted_holds (offer bytes wait limit);
      zero_unsound = zero_is_unsound;
      stays_sound = after_sound;
      stays_offered = after_terms;
      starts = starts_bounded;
      offer_starts = λ bytes wait limit. starts_of_offer (offer bytes wait limit);
      run_ends = awaited_ends;
      run_ends_18 = λ s calls h e k. awaited_ends s calls h e (omega arith);
      sent_in_order = sent_so_far;
      sent_whole = sent_all;
    }
