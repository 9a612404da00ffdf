-- A store changes its own cell and no other: what each reader reads where a touch does not hit, and what setup leaves.
use Rattle.std.specs.Prelude.{ℕ, zero, suc, ◌+◌, ◌*◌, ◌-◌, ◌<◌, ◌≤◌, ◌≡◌, refl, true, false, List, get_or, set, replicate, eqb, None}
use Rattle.std.proofs.Common.{ap, ap₂, ◌∙◌, ⊎_elim, arith, eq-or-lt_of_le, get_or-set_other}
use Rattle.std.proofs.lemmas.List.{length-replicate}
use Rattle.memory.specs.Layout.{token, state, next, is_free, link}
use Rattle.memory.specs.Touch.{Touch, leaves, writes_token, writes_state, links, frees, clears, after, cleared}
use Rattle.memory.specs.Pool.{freed, fresh}
use Rattle.memory.specs.Lists.{sets_outside}
use Rattle.memory.specs.Cells.{Cell, token_of, state_of, next_of, free_of, address, Slotted, Room, Aimed, Hits, Of, in_block, of_hit}
use Rattle.memory.specs.Laws.{Alike, no, free-freed, length-freed}

-- two cells never share an address
pub one_address : (c d : Cell) → Slotted c → Slotted d → address c ≡ address d → c ≡ d
one_address (token_of b s) (token_of a r) h g e = ap₂ token_of (omega arith) (omega arith)
one_address (token_of b s) (state_of a r) h g e = absurd (omega arith)
one_address (token_of b s) (next_of a) h g e = absurd (omega arith)
one_address (token_of b s) (free_of a) h g e = absurd (omega arith)
one_address (state_of b s) (token_of a r) h g e = absurd (omega arith)
one_address (state_of b s) (state_of a r) h g e = ap₂ state_of (omega arith) (omega arith)
one_address (state_of b s) (next_of a) h g e = absurd (omega arith)
one_address (state_of b s) (free_of a) h g e = absurd (omega arith)
one_address (next_of b) (token_of a r) h g e = absurd (omega arith)
one_address (next_of b) (state_of a r) h g e = absurd (omega arith)
one_address (next_of b) (next_of a) h g e = ap next_of (omega arith)
one_address (next_of b) (free_of a) h g e = absurd (omega arith)
one_address (free_of b) (token_of a r) h g e = absurd (omega arith)
one_address (free_of b) (state_of a r) h g e = absurd (omega arith)
one_address (free_of b) (next_of a) h g e = absurd (omega arith)
one_address (free_of b) (free_of a) h g e = ap free_of (omega arith)

store_other : (m : List ℕ) (d c : Cell) (v : ℕ) → Slotted d → Slotted c → (c ≡ d → ⊥) → get_or (set m (address d) v) (address c) 0 ≡ get_or m (address c) 0
store_other m d c v h g n = get_or-set_other m (address d) (address c) v 0 (λ e. n (one_address c d g h e))

-- a cell that the touch does not hit keeps its word
pub untouched : (m : List ℕ) (t : Touch) (c : Cell) → Aimed t → Slotted c → (Hits t c → ⊥) → get_or (after m t) (address c) 0 ≡ get_or m (address c) 0
unfolding cleared
untouched m leaves c f g n = refl
untouched m (writes_token b s v) c f g n = store_other m (token_of b s) c v f g n
untouched m (writes_state b s w) c f g n = store_other m (state_of b s) c w f g n
untouched m (links b x) c f g n = store_other m (next_of b) c (x + 1) f g n
untouched m (frees b) c f g n = store_other m (free_of b) c 1 f g n
untouched m (clears b) c f g n = sets_outside m (b * 128) 128 0 (address c) (λ h k. n (omega (arith, in_block c g)))

-- ---- each reader of a cell that a touch does not hit

module _ (m : List ℕ) where
  pub token-writes_token : (a r v : ℕ) (b s : ℕ) → r < 63 → s < 63 → (b ≡ a → s ≡ r → ⊥) → token (after m (writes_token a r v)) b s ≡ token m b s
  token-writes_token a r v b s f g n = untouched m (writes_token a r v) (token_of b s) f g (λ e. n (cc) (cc))

  pub token-writes_state : (a r w : ℕ) (b s : ℕ) → r < 63 → s < 63 → token (after m (writes_state a r w)) b s ≡ token m b s
  token-writes_state a r w b s f g = untouched m (writes_state a r w) (token_of b s) f g (λ e. no (cc))

  pub token-links : (a x : ℕ) (b s : ℕ) → s < 63 → token (after m (links a x)) b s ≡ token m b s
  token-links a x b s g = untouched m (links a x) (token_of b s) tt g (λ e. no (cc))

  pub token-frees : (a : ℕ) (b s : ℕ) → s < 63 → token (after m (frees a)) b s ≡ token m b s
  token-frees a b s g = untouched m (frees a) (token_of b s) tt g (λ e. no (cc))

  pub token-clears : (a : ℕ) (b s : ℕ) → s < 63 → (b ≡ a → ⊥) → token (after m (clears a)) b s ≡ token m b s
  token-clears a b s g n = untouched m (clears a) (token_of b s) tt g n

  pub state-writes_token : (a r v : ℕ) (b s : ℕ) → r < 63 → s < 63 → state (after m (writes_token a r v)) b s ≡ state m b s
  state-writes_token a r v b s f g = untouched m (writes_token a r v) (state_of b s) f g (λ e. no (cc))

  pub state-writes_state : (a r w : ℕ) (b s : ℕ) → r < 63 → s < 63 → (b ≡ a → s ≡ r → ⊥) → state (after m (writes_state a r w)) b s ≡ state m b s
  state-writes_state a r w b s f g n = untouched m (writes_state a r w) (state_of b s) f g (λ e. n (cc) (cc))

  pub state-links : (a x : ℕ) (b s : ℕ) → s < 63 → state (after m (links a x)) b s ≡ state m b s
  state-links a x b s g = untouched m (links a x) (state_of b s) tt g (λ e. no (cc))

  pub state-frees : (a : ℕ) (b s : ℕ) → s < 63 → state (after m (frees a)) b s ≡ state m b s
  state-frees a b s g = untouched m (frees a) (state_of b s) tt g (λ e. no (cc))

  pub state-clears : (a : ℕ) (b s : ℕ) → s < 63 → (b ≡ a → ⊥) → state (after m (clears a)) b s ≡ state m b s
  state-clears a b s g n = untouched m (clears a) (state_of b s) tt g n

  pub next-writes_token : (a r v : ℕ) (b : ℕ) → r < 63 → next (after m (writes_token a r v)) b ≡ next m b
  next-writes_token a r v b f = ap link (untouched m (writes_token a r v) (next_of b) f tt (λ e. no (cc)))

  pub next-writes_state : (a r w : ℕ) (b : ℕ) → r < 63 → next (after m (writes_state a r w)) b ≡ next m b
  next-writes_state a r w b f = ap link (untouched m (writes_state a r w) (next_of b) f tt (λ e. no (cc)))

  pub next-links : (a x : ℕ) (b : ℕ) → (b ≡ a → ⊥) → next (after m (links a x)) b ≡ next m b
  next-links a x b n = ap link (untouched m (links a x) (next_of b) tt tt (λ e. n (cc)))

  pub next-frees : (a : ℕ) (b : ℕ) → next (after m (frees a)) b ≡ next m b
  next-frees a b = ap link (untouched m (frees a) (next_of b) tt tt (λ e. no (cc)))

  pub next-clears : (a : ℕ) (b : ℕ) → (b ≡ a → ⊥) → next (after m (clears a)) b ≡ next m b
  next-clears a b n = ap link (untouched m (clears a) (next_of b) tt tt n)

  pub free-writes_token : (a r v : ℕ) (b : ℕ) → r < 63 → is_free (after m (writes_token a r v)) b ≡ is_free m b
  free-writes_token a r v b f = ap (λ (k : ℕ). eqb k 1) (untouched m (writes_token a r v) (free_of b) f tt (λ e. no (cc)))

  pub free-writes_state : (a r w : ℕ) (b : ℕ) → r < 63 → is_free (after m (writes_state a r w)) b ≡ is_free m b
  free-writes_state a r w b f = ap (λ (k : ℕ). eqb k 1) (untouched m (writes_state a r w) (free_of b) f tt (λ e. no (cc)))

  pub free-links : (a x : ℕ) (b : ℕ) → is_free (after m (links a x)) b ≡ is_free m b
  free-links a x b = ap (λ (k : ℕ). eqb k 1) (untouched m (links a x) (free_of b) tt tt (λ e. no (cc)))

  pub free-frees : (a : ℕ) (b : ℕ) → (b ≡ a → ⊥) → is_free (after m (frees a)) b ≡ is_free m b
  free-frees a b n = ap (λ (k : ℕ). eqb k 1) (untouched m (frees a) (free_of b) tt tt (λ e. n (cc)))

  pub free-clears : (a : ℕ) (b : ℕ) → (b ≡ a → ⊥) → is_free (after m (clears a)) b ≡ is_free m b
  free-clears a b n = ap (λ (k : ℕ). eqb k 1) (untouched m (clears a) (free_of b) tt tt n)

-- a touch of one block leaves the others alone
pub elsewhere : (m : List ℕ) (t : Touch) (b : ℕ) → Aimed t → (Of t b → ⊥) → Alike m (after m t) b
elsewhere m t b f n =
    record {
      tokens = λ s g. untouched m t (token_of b s) f g (λ h. n (of_hit t (token_of b s) h));
      states = λ s g. untouched m t (state_of b s) f g (λ h. n (of_hit t (state_of b s) h));
      nexts = ap link (untouched m t (next_of b) f tt (λ h. n (of_hit t (next_of b) h)));
      marks = ap (λ (w : ℕ). eqb w 1) (untouched m t (free_of b) f tt (λ h. n (of_hit t (free_of b) h)));
    }

-- ---- what setup leaves

zeros : (n i : ℕ) → ◌≡◌ {A = ℕ} (get_or (replicate n 0) i 0) 0
zeros zero i = refl
zeros (suc n) zero = refl
zeros (suc n) (suc i) = zeros n i

-- free marks are all that it stores
freed-cell : (m : List ℕ) (n : ℕ) (c : Cell) → Slotted c → ((a : ℕ) → 1 ≤ a → a ≤ n → c ≡ free_of a → ⊥) → get_or (freed m n) (address c) 0 ≡ get_or m (address c) 0
unfolding freed
freed-cell m zero c g h = refl
freed-cell m (suc n) c g h =
    untouched (freed m n) (frees (suc n)) c tt g (h (suc n) (omega arith) (omega arith))
    ∙ freed-cell m n c g (λ a i j. h a i (omega arith))

freed_mark : (m : List ℕ) (n b : ℕ) → 1 ≤ b → b ≤ n → Room m b → is_free (freed m n) b ≡ true
unfolding freed
freed_mark m zero b h g r = absurd (omega arith)
freed_mark m (suc n) b h g r =
    ⊎_elim
    (λ (e : b ≡ suc n). rw e (free-freed (freed m n) (suc n) (omega (arith, length-freed m n))))
    (λ (k : b < suc n). free-frees (freed m n) (suc n) b (λ e. omega arith) ∙ freed_mark m n b h (omega arith) r)
    (eq-or-lt_of_le g)

module _ (len n : ℕ) where
  fresh-cell : (c : Cell) → Slotted c → ((a : ℕ) → 1 ≤ a → a ≤ n - 1 → c ≡ free_of a → ⊥) → get_or (fresh len n) (address c) 0 ≡ 0
  fresh-cell c g h = freed-cell (replicate len 0) (n - 1) c g h ∙ zeros len (address c)

  pub fresh-token : (b s : ℕ) → s < 63 → token (fresh len n) b s ≡ 0
  fresh-token b s g = fresh-cell (token_of b s) g (λ a i j e. no (cc))

  pub fresh-state : (b s : ℕ) → s < 63 → state (fresh len n) b s ≡ 0
  fresh-state b s g = fresh-cell (state_of b s) g (λ a i j e. no (cc))

  pub fresh-next : (b : ℕ) → next (fresh len n) b ≡ None
  fresh-next b = ap link (fresh-cell (next_of b) tt (λ a i j e. no (cc)))

  -- in use: block 0, and what is no block of the pool
  pub fresh-used : (b : ℕ) → (1 ≤ b → b < n → ⊥) → is_free (fresh len n) b ≡ false
  fresh-used b h = ap (λ (w : ℕ). eqb w 1) (fresh-cell (free_of b) tt (λ a i j e. let k : b ≡ a = cc in h (omega arith) (omega arith)))

  pub fresh-free : (b : ℕ) → n * 128 ≤ len → 1 ≤ b → b < n → is_free (fresh len n) b ≡ true
  fresh-free b r h g = freed_mark (replicate len 0) (n - 1) b h (omega arith) (omega (arith, length-replicate {A = ℕ} len 0))
