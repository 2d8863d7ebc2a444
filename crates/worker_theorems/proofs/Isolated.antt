-- Isolation, proved: both histories leave the page where the scan run by itself is.
use Prim.Native.Nat.{ℕ, ◌+◌, ◌-◌, ◌*◌}
use mathlib.Core.Path.{◌≡◌, sym, ap, ◌∙◌}
use mathlib.Core.List.{List}
use lib.ListN.{length}
use Rattle.base.specs.declared.Verdict.{Verdict}
use Rattle.events.specs.declared.Event.{Event}
use Rattle.events.specs.Share.{share_of}
use Rattle.scan.specs.declared.Scan.{Scan}
use Rattle.scan.specs.Answer.{answer_of}
use Rattle.scan.specs.Call.{job_of, fresh_scan}
use Rattle.scan.specs.Alone.{run_alone, events_alone}
use Rattle.worker_theorems.specs.Demand3.{bound, scan_alone, list_alone, Promise, turns_while}
use Rattle.worker_theorems.specs.Isolation.{History, admitted, late, heard, Stays, Isolation}
use Rattle.worker_theorems.proofs.Demand3.{no_page_holds_up_another}

abbrev alone : History → ℕ → Scan
alone h i = scan_alone h.bytes h.page (heard h i) (share_of (length h.events))

abbrev list : History → ℕ → List Event
list h i = list_alone h.bytes h.page (heard h i) (share_of (length h.events))

promise : (h : History) (i : ℕ) → Stays h i → Promise h.q (bound h.page) i (alone h i) (list h i) (length (heard h i)) (turns_while i h.since (admitted h)) (late h)
promise h i s = no_page_holds_up_another h.q h.events h.before h.since h.bytes h.page i s.starts s.placed s.fair

-- the same page, verdicts and room
module _ {t t' : List ℕ} {n n' s s' c c' k k' f f' r r' : ℕ} {vs vs' : List Verdict} (et : t ≡ t') (en : n ≡ n') (es : s ≡ s') (ec : c ≡ c') (ek : k ≡ k') (ef : f ≡ f') (ev : vs ≡ vs') (er : r ≡ r') where
  same_scan : run_alone t (8 * (n - s + 1)) vs (fresh_scan t (job_of c k f n s r)) ≡ run_alone t' (8 * (n' - s' + 1)) vs' (fresh_scan t' (job_of c' k' f' n' s' r'))
  same_scan = rw (et, en, es, ec, ek, ef, ev, er)

  same_list : events_alone t (8 * (n - s + 1)) vs (fresh_scan t (job_of c k f n s r)) ≡ events_alone t' (8 * (n' - s' + 1)) vs' (fresh_scan t' (job_of c' k' f' n' s' r'))
  same_list = rw (et, en, es, ec, ek, ef, ev, er)

pub pages_are_isolated : Isolation
pages_are_isolated h k i j s t a =
    let p = promise h i s in
    let r = promise k j t in
    let e : alone h i ≡ alone k j = same_scan a.text a.long a.start a.construct a.kind a.flags a.verdicts a.room in
    let f : list h i ≡ list k j = same_list a.text a.long a.start a.construct a.kind a.flags a.verdicts a.room in (
      λ x y. ((p.finished x).0 ∙ ap answer_of e ∙ sym (r.finished y).0, (p.finished x).1 ∙ f ∙ sym (r.finished y).1),
      λ x y. ((p.waiting x).0 ∙ e ∙ sym (r.waiting y).0, (p.waiting x).1 ∙ f ∙ sym (r.waiting y).1),
    )
