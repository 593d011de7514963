-- Which joins a join feed stands for.
use Rattle.std.proofs.Common.{◌≡◌, ℕ, ◌+◌, ◌-◌, ◌<◌, ◌≤◌, true, false, List, [], ◌∷◌, map, reverse, length, get_or, take, sym, refl, ap, ◌∙◌, subst, le_antisymm, arith}
use mathlib.Core.List.{reverse-cons}
use Rattle.std.specs.List.{range_with_len, ContainsAt as Has}
use Rattle.std.specs.List.Sorted.{IsPermutation}
use Rattle.std.proofs.lemmas.List.{get_or-map, take_more, reverse-append}
use Rattle.std.proofs.lemmas.List.FromFn.{length-map-range_with_len, get_or-map-range_with_len}
use Rattle.std.proofs.lemmas.List.Sorted.{IsPermutation-refl, IsPermutation-cons, IsPermutation-trans, IsPermutation-to_front}
use Rattle.std.proofs.lemmas.Bool.{and_from}
use Rattle.tables.specs.Table.{Table, Sound, within}
use Rattle.tables.specs.Groups.{Joins, Connected, itself, joining, back, onward, Lowest, accepted, merged, lowest}
use Rattle.tables.specs.Joined.{shown, joined}
use Rattle.tables.specs.Laws.{ShowsGroups}
use Rattle.tables.proofs.Cells.{within_parts, within_from, places}
use Rattle.tables.proofs.Connects.{agree, low, above_none, lowest_is, one_lowest, lowest_free, merged_same}
use Rattle.tables.proofs.Gathers.{shown_same}
use Rattle.tables.proofs.Orders.{shows_groups}
use Rattle.feeds.specs.Leaders.{lead_of}
use Rattle.feeds.specs.Joining.{join_table, After}
use Rattle.feeds.specs.declared.joined.JoinFeed.{JoinFeed}
use Rattle.feeds.proofs.Leads.{led_at}

module _ {F : Type 0} (table : F → Table) (sound : (f : F) → Sound (table f)) where
  abbrev count : JoinFeed F → ℕ
  count s = (table s.below).points

  few : (s : JoinFeed F) → count s ≤ 32
  few s = (sound s.below).counts.1

  pub after_made : (js : Joins) (s : JoinFeed F) → ((p : ℕ) → within (count s) p ≡ true → lead_of s.leaders p ≡ lowest (count s) js p) → After table js s
  after_made js s h =
      let t = table s.below in
      let e : join_table table s ≡ joined js t = shown_same (lead_of s.leaders) (lowest (count s) js) t (λ q a b. h q (within_from (count s) q a b)) in
      record {
        led = λ p v. subst (Lowest (count s) js p) (sym (h p v)) (lowest_is (count s) js p);
        shows = e;
        groups = subst (ShowsGroups js t) (sym e) (shows_groups js t);
      }

  lead_is : (js : Joins) (s : JoinFeed F) → After table js s → (p : ℕ) → within (count s) p ≡ true → lead_of s.leaders p ≡ lowest (count s) js p
  lead_is js s h p v = one_lowest (count s) js p (lead_of s.leaders p) (lowest (count s) js p) (h.led p v) (lowest_is (count s) js p)

  pub after_refused : (js : Joins) (a b : ℕ) (s : JoinFeed F) → accepted (count s) a b ≡ false → After table js s → After table ((a, b) ∷ js) s
  after_refused js a b s v h = after_made ((a, b) ∷ js) s (λ p w. lead_is js s h p w ∙ rw v refl)

  pub after_join : (js : Joins) (a b : ℕ) (s new : JoinFeed F) → accepted (count s) a b ≡ true → new.below ≡ s.below
      → new.leaders ≡ map (merged (lead_of s.leaders a) (lead_of s.leaders b)) s.leaders → After table js s → After table ((a, b) ∷ js) new
  after_join js a b s new v o e h =
      let n = count s in
      let leaders = s.leaders in
      let both = places n n a b v in
      let x : lead_of leaders a ≡ lowest n js a = lead_is js s h a (within_from n a both.0.0 both.0.1) in
      let y : lead_of leaders b ≡ lowest n js b = lead_is js s h b (within_from n b both.1.0 both.1.1) in
      let m : count new ≡ n = ap (λ f. (table f).points) o in
      after_made ((a, b) ∷ js) new (λ p w.
      let w' : within n p ≡ true = subst (λ c. within c p ≡ true) m w in
      let in-n = within_parts n p w' in
      let most = few s in
      let size = s.long in
      let to : merged (lowest n js a) (lowest n js b) (lowest n js p) ≡ lowest n ((a, b) ∷ js) p = rw v refl in
      ap (λ xs. lead_of xs p) e
      ∙ get_or-map (merged (lead_of leaders a) (lead_of leaders b)) leaders (p - 1) 0 0 (omega arith)
      ∙ ap (λ l. merged l (lead_of leaders b) (lead_of leaders p)) x
      ∙ ap (λ l. merged (lowest n js a) l (lead_of leaders p)) y
      ∙ ap (merged (lowest n js a) (lowest n js b)) (lead_is js s h p w')
      ∙ to
      ∙ ap (λ c. lowest c ((a, b) ∷ js) p) (sym m))

  -- Joining two points of one group leaves the table as it is.
  pub after_again : (js : Joins) (a b : ℕ) (s : JoinFeed F) (new : List ℕ) → accepted (count s) a b ≡ true → new ≡ map (merged (lead_of s.leaders a) (lead_of s.leaders b)) s.leaders
      → After table js s → Connected (count s) js a b → shown (lead_of new) (table s.below) ≡ join_table table s
  after_again js a b s new v e h c =
      let n = count s in
      let leaders = s.leaders in
      let both = places n n a b v in
      let x : lead_of leaders a ≡ lowest n js a = lead_is js s h a (within_from n a both.0.0 both.0.1) in
      let y : lead_of leaders b ≡ lowest n js b = lead_is js s h b (within_from n b both.1.0 both.1.1) in
      let one : lead_of leaders b ≡ lead_of leaders a = y ∙ sym (agree n js c) ∙ sym x in
      shown_same (lead_of new) (lead_of leaders) (table s.below) (λ p low high.
      let most = few s in
      let size = s.long in
      ap (λ xs. lead_of xs p) e
      ∙ get_or-map (merged (lead_of leaders a) (lead_of leaders b)) leaders (p - 1) 0 0 (omega arith)
      ∙ ap (λ l. merged (lead_of leaders a) l (lead_of leaders p)) one
      ∙ merged_same (lead_of leaders a) (lead_of leaders p))

  pub after_shuffled : (js ks : Joins) (s : JoinFeed F) → IsPermutation js ks → After table js s → After table ks s
  after_shuffled js ks s p h = after_made ks s (λ q v. lead_is js s h q v ∙ lowest_free (count s) js ks p q)

  -- Whatever was done with a join feed, it stands for some joins: each point with its leader.
  module _ (s : JoinFeed F) where
    abbrev lead : ℕ → ℕ
    lead = lead_of s.leaders

    abbrev own : Joins
    own = map (λ p. (p, lead p)) (range_with_len 1 (count s))

    led_here : (p : ℕ) → 1 ≤ p → p ≤ count s → (1 ≤ lead p) × (lead p ≤ p) × (lead (lead p) ≡ lead p)
    led_here p a b = let most = few s in led_at s.leaders s.led p a (omega arith)

    own_has : (p : ℕ) → 1 ≤ p → p ≤ count s → Has own (p, lead p)
    own_has p a b =
        let l : length own ≡ count s = length-map-range_with_len (λ p. (p, lead p)) 1 (count s) in
        (p - 1, omega arith, λ d. get_or-map-range_with_len (λ p. (p, lead p)) 1 (count s) (p - 1) p d (omega arith) (omega arith))

    own_pair : (a b : ℕ) → Has own (a, b) → lead a ≡ b
    own_pair a b h =
        let k = h.0 in
        let l : length own ≡ count s = length-map-range_with_len (λ p. (p, lead p)) 1 (count s) in
        let at = get_or-map-range_with_len (λ p. (p, lead p)) 1 (count s) k (k + 1) (0, 0) (let m = h.1 in omega arith) (omega arith) in
        let e = sym (h.2 (0, 0)) ∙ at in
        ap lead (ap (λ x. x.0) e) ∙ sym (ap (λ x. x.1) e)

    led_alike : {p q : ℕ} → Connected (count s) own p q → lead p ≡ lead q
    led_alike itself = refl
    led_alike (joining {a} {b} h v) =
        let both = places (count s) (count s) a b v in
        sym (led_here a both.0.0 both.0.1).2 ∙ ap lead (own_pair a b h)
    led_alike (back c) = sym (led_alike c)
    led_alike (onward c d) = led_alike c ∙ led_alike d

    pub some_joins : (js : Joins) × After table js s
    some_joins = (
      own,
      after_made own s (λ p v.
          let n = count s in
          let b = within_parts n p v in
          let l = lowest_is n own p in
          let d = led_here p b.0 b.1 in
          let down = low n own p in
          let pos = above_none n own p b.0 in
          let at = led_here (lowest n own p) pos (omega arith) in
          let same = led_alike l.in_group in
          le_antisymm (omega arith)
          (l.least (lead p) (joining (own_has p b.0 b.1) (and_from _ _ v (within_from n (lead p) d.0 (omega arith)))))),
    )

pub shuffled_reverse : {X : Type 0} (xs : List X) → IsPermutation (reverse xs) xs
shuffled_reverse [] = IsPermutation-refl []
shuffled_reverse (x ∷ xs) =
    let P : List _ → Type 0 = λ ys. IsPermutation ys (x ∷ xs) in
    subst P (sym (reverse-cons x xs)) (IsPermutation-trans _ _ _ (IsPermutation-to_front (reverse xs) x) (IsPermutation-cons x (reverse xs) xs (shuffled_reverse xs)))

pub reverse_more : {X : Type 0} (xs : List X) (i : ℕ) (d : X) → i < length xs → get_or xs i d ∷ reverse (take i xs) ≡ reverse (take (i + 1) xs)
reverse_more xs i d h = sym (ap reverse (take_more xs i d h) ∙ reverse-append (take i xs) (get_or xs i d ∷ []))
