-- EVERY PROMISE about images, tables, plans and prime forms, with its proved term. Assumes nothing.
use mathlib.Core.Path.{◌≡◌, refl, sym, ap, ap₂, ◌∙◌}
use mathlib.Core.Bool.{true}
use mathlib.Core.List.Memᴰ
use mathlib.Core.List.{◌++◌, List, [], ◌∷◌}
use Prim.Native.Nat.{ℕ}
use native.Mathlib.Omega.{arith}
use lib.ListN.{drop}
use Rattle.bpa.specs.Plans.{Table, all_below, moves}
use Rattle.bpa.specs.Norms.{norms, norm}
use Rattle.bpa.proofs.Basics.Plans.{step_over, over_one, over_append, over_left, over_right, sum_one}
use Rattle.bpa.proofs.Rounds.Equivalence.{bisimilar_equivalent, equivalent_append, equivalent_cancel_left, equivalent_cancel_right}
use Rattle.bpa.proofs.Base.MethodDecides.{equivalent_bisimilar}
use Rattle.bpa.proofs.Forms.FormMeaning.{stands_lowest}
use Rattle.bpa.proofs.Basics.Cases.{never_both}
use Rattle.bpa.proofs.Basics.Moves.{moves_are_steps, steps_are_moves}
use Rattle.bpa.proofs.Answers.{enough_rounds, same_exact, same_equivalent, any_same, apart_told, form_exists, forms_exact, lowest_own_form}
use Rattle.bpa.proofs.Answers as answers
use Rattle.bpa.proofs.Norm.NormFewest as fewest
use Rattle.rules.specs.Places.{table_of, table_bytes}
use Rattle.refusal.proofs.TableRefusals.{six_exact, seven_exact}
use Rattle.image.specs.Image.{image_refusal, image_jobs, image_places, table_in}
use Rattle.image.specs.Writing.{write_refusal, written}
use Rattle.image.proofs.TableBytes.{bytes_of_list, bytes_of_image}
use Rattle.image.proofs.ImageBack as images
use Rattle.image.proofs.TableBack as tables
use Rattle.moves.specs.Shown.{shown}
use Rattle.moves.proofs.ShownMoves.{once_members, once_apart, once_order}
use Rattle.moves.proofs.OnlyShown.{once_only}
use Rattle.moves.proofs.OneCombination as combinations
use Rattle.moves.proofs.NoSuchMove as nth
use Rattle.table.proofs.ImageTables.{image_closed, image_passes, layout_passed}
use Rattle.table.proofs.ImageTables as sources
use Rattle.table.proofs.ListTables.{list_closed, list_passed}
use Rattle.table.proofs.ListTables as lists
use Rattle.promises.specs.Promises as promised
use Rattle.promises.proofs.WrittenBytes.{written_bytes}
use Rattle.promises.proofs.ExactRefusals.{image_exactly, writer_exactly}
use Rattle.promises.proofs.ExactRefusals as refusals
use Rattle.promises.proofs.ListedMoves as listed

-- IMAGES AND TABLES
pub places_back : promised.PlacesBack
unfolding promised.PlacesBack promised.all_bytes
places_back bs k = (images.image_writes bs k.passed, images.image_back bs k.passed k.bytes)

-- the job count and the rules of the table are those that stand in the image
module _ (bs : List ℕ) (bytes : all_below 256 bs ≡ true) (h : image_refusal bs ≡ 0) where
  jobs_stand : image_jobs bs ≡ (table_in bs).jobs
  unfolding table_in table_of
  jobs_stand = refl

  places_stand : image_places bs ≡ drop 1 (table_bytes (table_in bs))
  places_stand = ap (drop 1) (sym (bytes_of_image bs bytes (image_passes bs h).0))

pub image_back : promised.ImageBack
unfolding promised.ImageBack promised.PlacesBack promised.all_bytes
image_back bs k =
    let j = jobs_stand bs k.bytes k.passed in
    let ps = places_stand bs k.bytes k.passed in
    (ap₂ write_refusal (sym j) (sym ps) ∙ (places_back bs k).0, ap₂ written (sym j) (sym ps) ∙ (places_back bs k).1)

pub images_tell : promised.ImagesTell
unfolding promised.ImagesTell promised.ImageBack
images_tell bs cs k l = (
  λ e. sym (image_back bs k).1 ∙ ap (λ (t : Table). written t.jobs (drop 1 (table_bytes t))) e ∙ (image_back cs l).1,
  ap table_in,
)

pub table_back : promised.TableBack
unfolding promised.TableBack promised.all_bytes
table_back n rs b h = (
  record { bytes = written_bytes n rs (tables.good n rs h).jobs b; passed = tables.table_back n rs h },
  ap table_bytes (tables.table_held n rs (tables.good n rs h)) ∙ bytes_of_list n rs (tables.good n rs h) b,
)

-- SOURCES OF TABLES
pub image_table : promised.ImageTable
unfolding promised.ImageTable
image_table bs = (λ h. (image_closed bs h, layout_passed bs h), sources.image_table bs)

pub list_table : promised.ListTable
unfolding promised.ListTable
list_table n rs = (λ h. (list_closed n rs h, list_passed n rs h), lists.list_table n rs)

-- REFUSALS 6 TO 9
pub six_exactly : promised.SixExactly
unfolding promised.SixExactly
six_exactly = six_exact

pub image_six : promised.ImageSix
unfolding promised.ImageSix
image_six bs = image_exactly bs 6 (omega arith) (λ h. six_exact (table_in bs) (image_closed bs h))

pub writer_six : promised.WriterSix
unfolding promised.WriterSix
writer_six n rs = writer_exactly n rs 6 (omega arith) (λ h. six_exact (table_of n rs) (list_closed n rs h))

pub seven_exactly : promised.SevenExactly
unfolding promised.SevenExactly
seven_exactly = seven_exact

pub image_seven : promised.ImageSeven
unfolding promised.ImageSeven
image_seven bs = image_exactly bs 7 (omega arith) (λ h. seven_exact (table_in bs) (image_closed bs h))

pub writer_seven : promised.WriterSeven
unfolding promised.WriterSeven
writer_seven n rs = writer_exactly n rs 7 (omega arith) (λ h. seven_exact (table_of n rs) (list_closed n rs h))

pub eight_exactly : promised.EightExactly
unfolding promised.EightExactly
eight_exactly = refusals.eight_exactly

pub nine_exactly : promised.NineExactly
unfolding promised.NineExactly
nine_exactly = refusals.nine_exactly

pub eight_of_two : promised.EightOfTwo
unfolding promised.EightOfTwo
eight_of_two = refusals.eight_of_two

pub nine_of_two : promised.NineOfTwo
unfolding promised.NineOfTwo
nine_of_two = refusals.nine_of_two

-- NORMS

pub norm_fewest : promised.NormFewest
unfolding promised.NormFewest
norm_fewest t p k o = fewest.norm_fewest t k.good p o

-- MOVES
pub moves_exactly : promised.MovesExactly
unfolding promised.MovesExactly
moves_exactly t x β a q = (moves_are_steps t (x ∷ β) a q, steps_are_moves t (x ∷ β) a q)

pub shown_members : promised.ShownMembers
unfolding promised.ShownMembers shown
shown_members t p = once_members (moves t p)

pub shown_once : promised.ShownOnce
unfolding promised.ShownOnce shown
shown_once t p = once_apart (moves t p)

pub shown_in_order : promised.ShownInOrder
unfolding promised.ShownInOrder shown
shown_in_order t p = once_order (moves t p)

pub shown_only : promised.ShownOnly
unfolding promised.ShownOnly shown
shown_only t p = once_only (moves t p)

pub one_combination : promised.OneCombination
unfolding promised.OneCombination
one_combination = combinations.one_combination

pub steps_listed : promised.StepsListed
unfolding promised.StepsListed
steps_listed = listed.step_listed

pub no_such_move : promised.NoSuchMove
unfolding promised.NoSuchMove
no_such_move = nth.no_such_move

pub moves_over : promised.MovesOver
unfolding promised.MovesOver
moves_over t p q a k o s = step_over t (norms t) k.good p q a o s

-- SAMENESS
pub same_exactly : promised.SameExactly
unfolding promised.SameExactly
same_exactly t p q k o o' = same_exact t k.good p q o o'

pub apart_from_all : promised.ApartFromAll
unfolding promised.ApartFromAll
apart_from_all t p q k o o' h R b r =
    never_both _ (any_same t k.good p q o o' R b r) h

pub rounds_tell : promised.RoundsTell
unfolding promised.RoundsTell
rounds_tell t p q k o o' = (
  same_equivalent t k.good p q o o',
  λ h. (enough_rounds t p, apart_told t k.good p q o o' h),
)

pub same_norm : promised.SameNorm
unfolding promised.SameNorm
same_norm t p q k h = answers.same_norm t k.good p q h

pub congruence : promised.Congruence
unfolding promised.Congruence
congruence t p p' q q' k h l =
    let g = k.good in
    equivalent_bisimilar t (norms t) g (p ++ q) (p' ++ q') (over_append t p q h.over_left l.over_left)
    (over_append t p' q' h.over_right l.over_right)
    (equivalent_append t (norms t) g p p' q q' h.over_left h.over_right (bisimilar_equivalent t (norms t) g p p' h)
    (bisimilar_equivalent t (norms t) g q q' l))

pub cancellation : promised.Cancellation
unfolding promised.Cancellation
cancellation t p q r k =
    let g = k.good in (
      λ h.
          let oₚ = over_right t r p h.over_left in
          let o = over_right t r q h.over_right in
          equivalent_bisimilar t (norms t) g p q oₚ o
          (equivalent_cancel_left t (norms t) g r p q (over_left t r p h.over_left) oₚ o (bisimilar_equivalent t (norms t) g (r ++ p) (r ++ q) h)),
      λ h.
          let oₚ = over_left t p r h.over_left in
          let o = over_left t q r h.over_right in
          equivalent_bisimilar t (norms t) g p q oₚ o
          (equivalent_cancel_right t (norms t) g p q r oₚ o (over_right t p r h.over_left) (bisimilar_equivalent t (norms t) g (p ++ r) (q ++ r) h)),
    )

-- PRIME FORMS
pub form_there : promised.FormThere
unfolding promised.FormThere
form_there t p k o = form_exists t k.good p o

pub form_single : promised.FormSingle
unfolding promised.FormSingle
form_single t p f k h = answers.form_single t k.good p f h

pub form_settled : promised.FormSettled
unfolding promised.FormSettled
form_settled t p k o = answers.form_settled t k.good p o

pub forms_tell : promised.FormsTell
unfolding promised.FormsTell
forms_tell t p q f g k = forms_exact t k.good p q f g

pub form_longest : promised.FormLongest
unfolding promised.FormLongest
form_longest t p f q k = answers.form_longest t k.good p f q

pub stands_exactly : promised.StandsExactly
unfolding promised.StandsExactly norm
stands_exactly t j k h = (
  λ l. (j ∷ [], over_one t j h, omega (arith, sum_one (norms t) j, k.small j), j ∷ [], lowest_own_form t k.good j l, Memᴰ.head refl),
  λ p f m i. stands_lowest t (norms t) k.good (equivalent_bisimilar t (norms t) k.good) j p f m i,
)
