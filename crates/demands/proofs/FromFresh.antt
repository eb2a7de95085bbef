-- Demands 2 and 3 from an accepted fresh on, and that a frame given up leaves the unit of before its open. Assumes nothing.
use mathlib.Core.Path.{◌≡◌, refl, sym, ap, ◌∙◌}
use mathlib.Core.Bool.{true}
use mathlib.Core.List.{List, [], ◌∷◌}
use mathlib.Core.Logic.{◌⊎◌, inl, inr}
use Rattle.samples.proofs.Laws.{accept_either}
use Rattle.unit.specs.Layout.{Model, wall}
use Rattle.unit.specs.Fresh.{no_frame}
use Rattle.machine.specs.Ending.{Memory, Ending}
use Rattle.machine.specs.Jobs.{Job}
use Rattle.machine.specs.Calls.{reset, job, close, ending, answer, after}
use Rattle.machine.specs.Requests.{Slice, Request, ask, seen, back, answer_of, request, requests, declined}
use Rattle.demands.specs.AnyOrder.{Begins}
use Rattle.demands.specs.LineLaw.{by_reset}
use Rattle.demands.specs.Refusals.{given_back}
use Rattle.demands.specs.FromFresh.{Built, Reached, FromFresh, from_fresh, AnyOrderFromFresh, CloseFromFresh, LineLawFromFresh}
use Rattle.demands.specs.FromFresh.{AnyJob, any_job, Worked, after_open, FrameGivenUp, FrameGivenUpFromFresh}
use Rattle.demands.proofs.Refused.{failure_gives_back, abandon_gives_back}
use Rattle.demands.proofs.AnyOrderBlank.{idle}
use Rattle.demands.proofs.AnyOrderOpen.{opened_told}
use Rattle.demands.proofs.AnyOrderRequests.{stays, left_same}
use Rattle.demands.proofs.AnyOrder.{any_order, close_refuses_exactly}
use Rattle.demands.proofs.LineLaw.{line_law}
use Rattle.demands.proofs.Together.{cursors_together}
use Rattle.demands.proofs.Reached.{stays_in_range}

wall_built : Built wall
wall_built = record { four = refl; some = refl }

reached : (v : Memory) → FromFresh v → Reached wall v.unit
reached v (from_fresh w rate frame e es) = stays_in_range wall wall_built w rate frame es

begins : (v : Memory) → FromFresh v → Begins wall v.unit
begins v h = record { passes = refl; sized = (reached v h).sized }

pub any_order_from_fresh : AnyOrderFromFresh
any_order_from_fresh v h p rs opens between output q = any_order wall v p rs (record { begins = begins v h; opens = opens; between = between }) output q

pub close_from_fresh : CloseFromFresh
close_from_fresh v h p rs opens between done output long =
    close_refuses_exactly wall v p rs (record { begins = begins v h; opens = opens; between = between }) done output long

pub line_law_from_fresh : LineLawFromFresh
line_law_from_fresh v (from_fresh w rate frame e es) q i h rs plays =
    line_law wall (after wall v reset) (by_reset v (reached v (from_fresh w rate frame e es)).sized q (cursors_together wall w rate frame e es)) i h rs plays

-- ---- a frame given up

-- v has a frame open that was opened on w, and the store that it had
record Open (w v : Memory) : Type 0 where
  settings : v.unit.settings ≡ w.unit.settings
  cursors : v.unit.cursors ≡ w.unit.cursors
  count : v.unit.count ≡ w.unit.count
  before : v.unit.held.before ≡ w.unit.filters
  busy : v.unit.held.busy ≡ true
  store : v.store ≡ w.store

module _ (m : Model) (w : Memory) where
  job_open : (v : Memory) (j : Job) (s k : Slice) → Open w v → Open w (request m v (ask (job j) s k))
  unfolding ending request
  job_open v j s k h =
      accept_either (λ (x : Memory). Open w (back v s k x)) (answer m (seen v s k) (job j))
      (λ e. record {
        settings = h.settings;
        cursors = h.cursors;
        count = h.count;
        before = h.before;
        busy = h.busy;
        store = left_same s v.store refl ∙ h.store;
      })
      (λ n. record {
        settings = h.settings;
        cursors = h.cursors;
        count = h.count;
        before = h.before;
        busy = h.busy;
        store = left_same s v.store refl ∙ h.store;
      })

  jobs_open : (v : Memory) (rs : List Request) → Worked m v rs → Open w v → Open w (requests m v rs)
  unfolding Worked requests
  jobs_open v [] b h = h
  jobs_open v (r ∷ rs) b h = jobs_open (request m v r) rs b.1 (one r b.0)
    where
      one : (r : Request) → AnyJob r ⊎ (declined m v r ≡ true) → Open w (request m v r)
      one r (inl (any_job j s k)) = job_open v j s k h
      one r (inr e) = rw (stays m v r e) h

  -- what a failed or abandoned frame gives back is w's unit, where nothing was held
  given_back_lem : (v : Memory) (s k : Slice) → w.unit.held ≡ no_frame m → Open w v → (given_back m (seen v s k)).unit ≡ w.unit
  given_back_lem v s k q h =
      rw h.busy (λ t. record { settings = h.settings t; cursors = h.cursors t; count = h.count t; filters = h.before t; held = sym q t })

pub frame_given_up : FrameGivenUp
unfolding ending answer_of request
frame_given_up m w sized p s k e rs b =
    let told = opened_told m (seen w s k) p e in
    let none = idle m w.unit sized told.range told.free in
    let first : Open w (after_open m w p s k) = rw e record { settings = refl; cursors = refl; count = refl; before = refl; busy = refl; store = left_same s w.store refl } in
    let v = requests m (after_open m w p s k) rs in
    let still = jobs_open m w (after_open m w p s k) rs b first in (
      λ s' k'. record {
        abandoned = λ a. ap (λ (x : Memory). x.unit) (abandon_gives_back m (seen v s' k') a) ∙ given_back_lem m w v s' k' none still;
        failed = λ output a. ap (λ (x : Ending). x.memory.unit) (failure_gives_back m (seen v s' k') (close output) a) ∙ given_back_lem m w v s' k' none still;
      },
      still.store,
    )

pub frame_given_up_from_fresh : FrameGivenUpFromFresh
frame_given_up_from_fresh w h p s k e rs b = frame_given_up wall w (reached w h).sized p s k e rs b
