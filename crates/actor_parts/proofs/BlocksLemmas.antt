-- A location's collection is the number of blocks that end at it or below. Blocks end one after another, so a search by halves finds that
-- number (`parted`), and it is what the definitions count (`home_at`).
use Rattle.std.proofs.Common.{◌≡◌, ℕ, zero, suc, ◌+◌, ◌<◌, ◌≤◌, cond, ltb, leb, Bool, true, false, not, ◌||◌, Some, None, List, [], ◌∷◌}
use Rattle.std.proofs.Common.{◌++◌, length, get_or, map, refl, sym, ap, ◌∙◌, arith}
use Rattle.std.proofs.lemmas.Bool.Decides.{nat_tests}
use Rattle.std.proofs.lemmas.Bool.{cond-true, cond-false}
use Rattle.replay_log.specs.Contents as contents
use Rattle.replay_log.specs.Contents.{Block, home_of, end_of, size}
use Rattle.actor_parts.specs.declared.blocks.BlockSpan.{BlockSpan}
use Rattle.actor_parts.specs.Blocks.{AreEnds, block_of, home_in}

pub is_below : (m n : ℕ) → m < n → ltb m n ≡ true
is_below m n h = grind (arith, nat_tests)

pub is_not_below : (m n : ℕ) → n ≤ m → ltb m n ≡ false
is_not_below m n h = grind (arith, nat_tests)

is_up_to : (m n : ℕ) → m ≤ n → leb m n ≡ true
is_up_to m n h = grind (arith, nat_tests)

pub up_to : (m n : ℕ) → leb m n ≡ true → m ≤ n
up_to m n h = grind (arith, nat_tests)

pub beyond : (m n : ℕ) → leb m n ≡ false → n < m
beyond m n h = grind (arith, nat_tests)

ends_above : (w : ℕ) (ps : List BlockSpan) → AreEnds w ps → (i : ℕ) (d : BlockSpan) → i < length ps → w ≤ (get_or ps i d).end
ends_above w [] e i d lt = absurd (omega arith)
ends_above w (p ∷ ps) e zero d lt = omega (arith, e.0)
ends_above w (p ∷ ps) e (suc i) d lt =
    let h = ends_above p.end ps e.1 i d (omega arith) in
    omega (arith, h, e.0)

ends_rise : (w : ℕ) (ps : List BlockSpan) → AreEnds w ps → (i j : ℕ) (d : BlockSpan) → i ≤ j → j < length ps
    → (get_or ps i d).end ≤ (get_or ps j d).end
ends_rise w [] e i j d le lt = absurd (omega arith)
ends_rise w (p ∷ ps) e zero zero d le lt = omega arith
ends_rise w (p ∷ ps) e zero (suc j) d le lt = ends_above p.end ps e.1 j d (omega arith)
ends_rise w (p ∷ ps) e (suc i) zero d le lt = absurd (omega arith)
ends_rise w (p ∷ ps) e (suc i) (suc j) d le lt = ends_rise p.end ps e.1 i j d (omega arith) (omega arith)

-- the blocks that end at l or below come first
pub parted : (l w : ℕ) (ps : List BlockSpan) → AreEnds w ps → (i j : ℕ) (d : BlockSpan) → i ≤ j → j < length ps
    → leb (get_or ps j d).end l ≡ true → leb (get_or ps i d).end l ≡ true
parted l w ps e i j d le lt h =
    let rise = ends_rise w ps e i j d le lt in
    let below = up_to (get_or ps j d).end l h in
    is_up_to (get_or ps i d).end l (omega (arith, rise, below))

pub home_at : (l w : ℕ) (ps : List BlockSpan) → AreEnds w ps → (i : ℕ) → i ≤ length ps
    → ((j : ℕ) (d : BlockSpan) → j < i → (get_or ps j d).end ≤ l)
    → ((j : ℕ) (d : BlockSpan) → i ≤ j → j < length ps → l < (get_or ps j d).end)
    → home_of w (map block_of ps) l ≡ i
home_at l w [] e i le low high = omega arith
home_at l w (p ∷ ps) e zero le low high =
    let h = high 0 p (omega arith) (omega arith) in
    cond-true (ltb l (w + size (block_of p))) 0 _ (is_below l (w + size (block_of p)) (omega (arith, h, e.0)))
home_at l w (p ∷ ps) e (suc i) le low high =
    let h = low 0 p (omega arith) in
    let rest : home_of p.end (map block_of ps) l ≡ i =
    home_at l p.end ps e.1 i (omega arith) (λ j d lt. low (suc j) d (omega arith))
    (λ j d ge lt. high (suc j) d (omega arith) (omega arith)) in
    cond-false (ltb l (w + size (block_of p))) 0 _ (is_not_below l (w + size (block_of p)) (omega (arith, h, e.0)))
    ∙ ap suc (ap (λ (v : ℕ). home_of v (map block_of ps) l) (sym e.0) ∙ rest)

end_above : (w : ℕ) (ps : List BlockSpan) → w ≤ end_of w (map block_of ps)
end_above w [] = omega arith
end_above w (p ∷ ps) = let h = end_above (w + size (block_of p)) ps in omega (arith, h)

pub end_behind : (w : ℕ) (bs : List Block) → w ≤ end_of w bs
end_behind w [] = omega arith
end_behind w (b ∷ bs) = let h = end_behind (w + size b) bs in omega (arith, h)

-- a location at which a block ends later is before the end of all
pub inside : (l w : ℕ) (ps : List BlockSpan) → AreEnds w ps → (i : ℕ) (d : BlockSpan) → i < length ps → l < (get_or ps i d).end
    → ltb l (end_of w (map block_of ps)) ≡ true
inside l w [] e i d lt h = absurd (omega arith)
inside l w (p ∷ ps) e zero d lt h =
    let g = end_above (w + size (block_of p)) ps in
    is_below l (end_of (w + size (block_of p)) (map block_of ps)) (omega (arith, g, h, e.0))
inside l w (p ∷ ps) e (suc i) d lt h =
    ap (λ (v : ℕ). ltb l (end_of v (map block_of ps))) (sym e.0) ∙ inside l p.end ps e.1 i d (omega arith) h

pub outside : (l w : ℕ) (ps : List BlockSpan) → AreEnds w ps → w ≤ l → ((j : ℕ) (d : BlockSpan) → j < length ps → (get_or ps j d).end ≤ l)
    → ltb l (end_of w (map block_of ps)) ≡ false
outside l w [] e le low = is_not_below l w le
outside l w (p ∷ ps) e le low =
    ap (λ (v : ℕ). ltb l (end_of v (map block_of ps))) (sym e.0)
    ∙ outside l p.end ps e.1 (low 0 p (omega arith)) (λ j d lt. low (suc j) d (omega arith))

-- what the search has found of a location
pub no_home_word : (l w : ℕ) (ps : List BlockSpan) → l < w → None ≡ home_in (record { words = w; blocks = map block_of ps }) l
no_home_word l w ps lt =
    let bs = map block_of ps in
    sym (ap (λ (b : Bool). cond (b || not (ltb l (end_of w bs))) None (Some (home_of w bs l))) (is_below l w lt))

pub no_home_beyond : (l w : ℕ) (ps : List BlockSpan) → AreEnds w ps → w ≤ l
    → ((j : ℕ) (d : BlockSpan) → j < length ps → (get_or ps j d).end ≤ l)
    → None ≡ home_in (record { words = w; blocks = map block_of ps }) l
no_home_beyond l w ps e le low =
    let bs = map block_of ps in
    sym (ap (λ (b : Bool). cond (b || not (ltb l (end_of w bs))) None (Some (home_of w bs l))) (is_not_below l w le)
    ∙ ap (λ (b : Bool). cond (false || not b) None (Some (home_of w bs l))) (outside l w ps e le low))

pub home_there : (l w : ℕ) (ps : List BlockSpan) (i : ℕ) → AreEnds w ps → w ≤ l → i < length ps
    → ((j : ℕ) (d : BlockSpan) → j < i → (get_or ps j d).end ≤ l)
    → ((j : ℕ) (d : BlockSpan) → i ≤ j → j < length ps → l < (get_or ps j d).end)
    → (d : BlockSpan) → Some i ≡ home_in (record { words = w; blocks = map block_of ps }) l
home_there l w ps i e le lt low high d =
    let bs = map block_of ps in
    let within = inside l w ps e i d lt (high i d (omega arith) lt) in
    sym (ap (λ (b : Bool). cond (b || not (ltb l (end_of w bs))) None (Some (home_of w bs l))) (is_not_below l w le)
    ∙ (ap (λ (b : Bool). cond (false || not b) None (Some (home_of w bs l))) within
    ∙ ap (λ (k : ℕ). cond (false || not true) None (Some k)) (home_at l w ps e i (omega arith) low high)))

-- ---- one block more
pub end_last : (w : ℕ) (ps : List BlockSpan) → AreEnds w ps → (i : ℕ) (d : BlockSpan) → suc i ≡ length ps
    → (get_or ps i d).end ≡ end_of w (map block_of ps)
end_last w [] e i d is = absurd (omega arith)
end_last w (p ∷ []) e zero d is = e.0
end_last w (p ∷ []) e (suc i) d is = absurd (omega arith)
end_last w (p ∷ (q ∷ qs)) e zero d is = absurd (omega arith)
end_last w (p ∷ (q ∷ qs)) e (suc i) d is =
    end_last p.end (q ∷ qs) e.1 i d (omega arith) ∙ ap (λ (v : ℕ). end_of v (map block_of (q ∷ qs))) e.0

pub ends_more : (w : ℕ) (ps : List BlockSpan) (p : BlockSpan) → AreEnds w ps → p.end ≡ end_of w (map block_of ps) + size (block_of p)
    → AreEnds w (ps ++ p ∷ [])
ends_more w [] p e is = (is, tt)
ends_more w (q ∷ qs) p e is =
    (e.0, ends_more q.end qs p e.1 (is ∙ ap (λ (v : ℕ). end_of v (map block_of qs) + size (block_of p)) (sym e.0)))

pub map_more : (ps : List BlockSpan) (p : BlockSpan) → map block_of (ps ++ p ∷ []) ≡ map block_of ps ++ block_of p ∷ []
map_more [] p = refl
map_more (q ∷ qs) p = ap (λ (bs : List Block). block_of q ∷ bs) (map_more qs p)

-- ---- the block of a collection
pub block_at : (ps : List BlockSpan) (i : ℕ) (d : BlockSpan) → i < length ps
    → contents.block_of (map block_of ps) i ≡ Some (block_of (get_or ps i d))
block_at [] i d lt = absurd (omega arith)
block_at (p ∷ ps) zero d lt = refl
block_at (p ∷ ps) (suc i) d lt = block_at ps i d (omega arith)

pub no_block_at : (ps : List BlockSpan) (i : ℕ) → length ps ≤ i → contents.block_of (map block_of ps) i ≡ None
no_block_at [] i le = refl
no_block_at (p ∷ ps) zero le = absurd (omega arith)
no_block_at (p ∷ ps) (suc i) le = no_block_at ps i (omega arith)

pub end_at : (w : ℕ) (ps : List BlockSpan) → AreEnds w ps → (i : ℕ) (d : BlockSpan) → i < length ps
    → (get_or ps i d).end ≡ contents.first_of w (map block_of ps) i + size (block_of (get_or ps i d))
end_at w [] e i d lt = absurd (omega arith)
end_at w (p ∷ ps) e zero d lt = e.0
end_at w (p ∷ ps) e (suc i) d lt =
    end_at p.end ps e.1 i d (omega arith)
    ∙ ap (λ (v : ℕ). contents.first_of v (map block_of ps) i + size (block_of (get_or ps i d))) e.0

pub length_blocks : (ps : List BlockSpan) → length (map block_of ps) ≡ length ps
length_blocks [] = refl
length_blocks (p ∷ ps) = ap suc (length_blocks ps)

-- of the block that was found at its place
pub begins_at : (w : ℕ) (ps : List BlockSpan) → AreEnds w ps → (i : ℕ) (d : BlockSpan) → i < length ps → d ≡ get_or ps i d
    → d.end ≡ contents.first_of w (map block_of ps) i + size (block_of d)
begins_at w ps e i d lt is =
    ap (λ (p : BlockSpan). p.end) is
    ∙ (end_at w ps e i d lt ∙ ap (λ (p : BlockSpan). contents.first_of w (map block_of ps) i + size (block_of p)) (sym is))
